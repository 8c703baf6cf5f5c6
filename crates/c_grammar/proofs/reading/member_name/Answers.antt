use Rattle.std.proofs.Common.{◌≡◌, ◌∷◌, [], true, false, refl}
use Rattle.c_tree.specs.declared.token.Class.TheVariants.{Name, SourceField, TagField}
use Rattle.c_grammar.specs.Grammar.{All, member_names}
use Rattle.c_grammar.specs.Meaning.{next_in}
use Rattle.c_grammar.proofs.Steps.{r_same, stop_passed_on, stops_from, fails_from}
use Rattle.c_grammar.proofs.Tables.{among}
use Rattle.c_grammar.proofs.Words.{word_like, kept_leaf, is_name}
use Rattle.c_grammar.proofs.reading.member_name.Goals as goal

pub returns-then-next_is-clause-reads : goal.returns-then-next_is-clause-reads
returns-then-next_is-clause-reads c =
    let q : next_in (SourceField ∷ []) c.args.tokens.now ≡ true = cc in
    r_same (word_like c.args.level All (SourceField ∷ []) member_names c.args.tokens.now _ (among (SourceField ∷ []) member_names refl c.args.tokens.now q) (c.in_ok-token.ensures.reads All)) (kept_leaf SourceField c.in_ok-token.token.now c.in_ok-token.ensures.class)

pub returns-in_err-token-clause-reads : goal.returns-in_err-token-clause-reads
returns-in_err-token-clause-reads c =
    let q : next_in (SourceField ∷ []) c.args.tokens.now ≡ true = cc in
    stop_passed_on _ _ _ _ _ _ _ c.from_residual.ensures.1 (stops_from _ (λ k zs h. word_like c.args.level All (SourceField ∷ []) member_names c.args.tokens.now _ (among (SourceField ∷ []) member_names refl c.args.tokens.now q) h) (c.in_err-token.ensures.reads All))

pub returns-then-next_is-2-clause-reads : goal.returns-then-next_is-2-clause-reads
returns-then-next_is-2-clause-reads c =
    let q : next_in (TagField ∷ []) c.args.tokens.now ≡ true = cc in
    r_same (word_like c.args.level All (TagField ∷ []) member_names c.args.tokens.now _ (among (TagField ∷ []) member_names refl c.args.tokens.now q) (c.in_ok-token-2.ensures.reads All)) (kept_leaf TagField c.in_ok-token-2.token.now c.in_ok-token-2.ensures.class)

pub returns-in_err-token-2-clause-reads : goal.returns-in_err-token-2-clause-reads
returns-in_err-token-2-clause-reads c =
    let q : next_in (TagField ∷ []) c.args.tokens.now ≡ true = cc in
    stop_passed_on _ _ _ _ _ _ _ c.from_residual-in_err-token-2.ensures.1 (stops_from _ (λ k zs h. word_like c.args.level All (TagField ∷ []) member_names c.args.tokens.now _ (among (TagField ∷ []) member_names refl c.args.tokens.now q) h) (c.in_err-token-2.ensures.reads All))

pub returns-in-Ok-clause-reads : goal.returns-in-Ok-clause-reads
returns-in-Ok-clause-reads c =
    let s : next_in (SourceField ∷ []) c.args.tokens.now ≡ false = cc in
    let t : next_in (TagField ∷ []) c.args.tokens.now ≡ false = cc in
    word_like c.args.level All (Name ∷ []) member_names c.args.tokens.now _ (is_name c.args.tokens.now s t) c.in-Ok.ensures.reads

pub returns-in-Err-clause-reads : goal.returns-in-Err-clause-reads
returns-in-Err-clause-reads c =
    let s : next_in (SourceField ∷ []) c.args.tokens.now ≡ false = cc in
    let t : next_in (TagField ∷ []) c.args.tokens.now ≡ false = cc in
    fails_from _ (λ k zs h. word_like c.args.level All (Name ∷ []) member_names c.args.tokens.now _ (is_name c.args.tokens.now s t) h) c.in-Err.ensures.reads
