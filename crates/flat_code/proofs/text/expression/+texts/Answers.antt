use Rattle.std.proofs.Common.{rules, append_assoc}
use Rattle.flat_code.proofs.Nodes.{text_load, text_address, text_chain, text_convert, text_not, text_unary, text_choice}
use Rattle.flat_code.proofs.Nested.{place_nested}
use Rattle.flat_code.proofs.text.expression.+texts.Goals as goal

pub put_expression-returns-in-Load : goal.put_expression-returns-in-Load
put_expression-returns-in-Load t c = rw (c.in-Load.is, text_load c.args.structs.now c.in-Load.place c.in-Load.kind) c.put_place.ensures

pub put_expression-returns-in_ok-put_place-in-Address : goal.put_expression-returns-in_ok-put_place-in-Address
put_expression-returns-in_ok-put_place-in-Address t c = rw (c.in-Address.is, text_address c.args.structs.now c.in-Address.place) (search (rules, append_assoc))

pub put_expression-returns-in_ok-put_expression-in-Convert : goal.put_expression-returns-in_ok-put_expression-in-Convert
put_expression-returns-in_ok-put_expression-in-Convert t c = rw (c.in-Convert.is, text_convert c.args.structs.now c.in-Convert.kind c.in-Convert.operand) (search (rules, append_assoc))

pub put_expression-returns-in_ok-put_expression-in-Not : goal.put_expression-returns-in_ok-put_expression-in-Not
put_expression-returns-in_ok-put_expression-in-Not t c = rw (c.in-Not.is, text_not c.args.structs.now c.in-Not.operand) (search (rules, append_assoc))

pub put_expression-returns-in_ok-put_expression-in-Unary : goal.put_expression-returns-in_ok-put_expression-in-Unary
put_expression-returns-in_ok-put_expression-in-Unary t c = rw (c.in-Unary.is, text_unary c.args.structs.now c.in-Unary.operator c.in-Unary.kind c.in-Unary.operand) (search (rules, append_assoc))

pub put_expression-returns-in_ok-put_expression-in-Chain : goal.put_expression-returns-in_ok-put_expression-in-Chain
put_expression-returns-in_ok-put_expression-in-Chain t c = rw (c.in-Chain.is, text_chain c.args.structs.now c.in-Chain.first c.in-Chain.rest) (search (rules, append_assoc))

pub put_expression-returns-in_ok-put_expression-in-Choice-3 : goal.put_expression-returns-in_ok-put_expression-in-Choice-3
put_expression-returns-in_ok-put_expression-in-Choice-3 t c = rw (c.in-Choice.is, text_choice c.args.structs.now c.in-Choice.test c.in-Choice.then c.in-Choice.otherwise) (search (rules, append_assoc))

pub put_place-returns : goal.put_place-returns
put_place-returns t c = rw (place_nested c.args.structs.now c.args.place.now) (search (rules, append_assoc))
