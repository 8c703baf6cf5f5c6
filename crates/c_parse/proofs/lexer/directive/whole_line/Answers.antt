use Rattle.std.proofs.Common.{◌∙◌, ap, length}
use Rattle.c_tree.specs.Scan.{line_class, lines, look, squeezed}
use Rattle.c_parse.proofs.lexer.directive.whole_line.Goals as goal

pub returns-in-Some-clause-found : goal.returns-in-Some-clause-found
returns-in-Some-clause-found c = ap (λ r. line_class r (length c.args.line.now)) (c.in-Some.ensures ∙ ap (look lines) (c.as_slice.ensures.value ∙ c.in_ok-bytes.ensures ∙ ap squeezed c.without_return.ensures))

pub returns-clause-found : goal.returns-clause-found
returns-clause-found c = ap (λ r. line_class r (length c.args.line.now)) (c.in-None.ensures ∙ ap (look lines) (c.as_slice.ensures.value ∙ c.in_ok-bytes.ensures ∙ ap squeezed c.without_return.ensures))
