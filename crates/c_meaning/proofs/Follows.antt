-- What follows in a function, by its levels, the outermost first.
use Rattle.std.proofs.Common.{◌≡◌, ℕ, true, false, List, [], ◌∷◌, ◌++◌, map, refl, ap}
use Rattle.std.proofs.lemmas.List.{reverse-append}
use Rattle.c_kernel.specs.declared.program.Stmt.{Stmt}
use Rattle.c_kernel.specs.declared.program.Function.{Function}
use Rattle.c_meaning.specs.declared.level.Level.{Level}
use Rattle.c_meaning.specs.declared.level.Stage.{Stage}
use Rattle.c_meaning.specs.declared.level.Stage.TheVariants as stage
use Rattle.c_meaning.specs.declared.level.Part.TheVariants.{Own, Start, Last}
use Rattle.c_meaning.specs.declared.frame.Frame.{Frame}
use Rattle.c_meaning.specs.State.{Item, after_loop, to_loop}
use Rattle.c_meaning.specs.Level.{inside, level_items, block_at, items_of, is_loop, again}
use Rattle.c_meaning.specs.Running.{todo_of, call_of, calls_of}

more : (block : List Stmt) (ls : List Level) (l : Level) (todo : List Item) → items_of block (ls ++ l ∷ []) todo ≡ level_items (block_at block ls) l.next l.stage (items_of block ls todo)
more block [] l todo = refl
more block (k ∷ ls) l todo = more (inside block k) ls l (level_items block k.next k.stage todo)

-- the items of a level at the end come first
pub items_more : (body : List Stmt) (ls : List Level) (l : Level) → todo_of body (ls ++ l ∷ []) ≡ level_items (block_at body ls) l.next l.stage (todo_of body ls)
items_more body ls l = more body ls l []

-- one level more
pub block_more : (block : List Stmt) (ls : List Level) (l : Level) → block_at block (ls ++ l ∷ []) ≡ inside (block_at block ls) l
block_more block [] l = refl
block_more block (k ∷ ls) l = block_more (inside block k) ls l

-- the newest call is the last
pub calls_more : (functions : List Function) (frames : List Frame) (frame : Frame) → calls_of functions (frames ++ frame ∷ []) ≡ call_of functions frame ∷ calls_of functions frames
calls_more functions frames frame = ap (map (call_of functions)) (reverse-append frames (frame ∷ []))

-- ---- loops

pub leaves : (block : List Stmt) (next : ℕ) (s : Stage) (todo : List Item) → is_loop s ≡ true → after_loop (level_items block next s todo) ≡ level_items block next stage.Between todo
leaves block next stage.Entering todo e = cc
leaves block next stage.Between todo e = cc
leaves block next stage.Begun todo e = cc
leaves block next stage.Testing todo e = refl
leaves block next stage.Stepping todo e = refl
leaves block next (stage.Acting Own at) todo e = cc
leaves block next (stage.Acting Start at) todo e = refl
leaves block next (stage.Acting Last at) todo e = refl
leaves block next (stage.Awaiting Own at) todo e = cc
leaves block next (stage.Awaiting Start at) todo e = refl
leaves block next (stage.Awaiting Last at) todo e = refl

pub goes_round : (block : List Stmt) (next : ℕ) (s : Stage) (todo : List Item) → is_loop s ≡ true → to_loop (level_items block next s todo) ≡ level_items block next (again s) todo
goes_round block next stage.Entering todo e = cc
goes_round block next stage.Between todo e = cc
goes_round block next stage.Begun todo e = cc
goes_round block next stage.Testing todo e = refl
goes_round block next stage.Stepping todo e = refl
goes_round block next (stage.Acting Own at) todo e = cc
goes_round block next (stage.Acting Start at) todo e = refl
goes_round block next (stage.Acting Last at) todo e = refl
goes_round block next (stage.Awaiting Own at) todo e = cc
goes_round block next (stage.Awaiting Start at) todo e = refl
goes_round block next (stage.Awaiting Last at) todo e = refl

pub not_left : (block : List Stmt) (next : ℕ) (s : Stage) (todo : List Item) → is_loop s ≡ false → after_loop (level_items block next s todo) ≡ after_loop todo
not_left block next stage.Entering todo e = refl
not_left block next stage.Between todo e = refl
not_left block next stage.Begun todo e = refl
not_left block next stage.Testing todo e = cc
not_left block next stage.Stepping todo e = cc
not_left block next (stage.Acting Own at) todo e = refl
not_left block next (stage.Acting Start at) todo e = cc
not_left block next (stage.Acting Last at) todo e = cc
not_left block next (stage.Awaiting Own at) todo e = refl
not_left block next (stage.Awaiting Start at) todo e = cc
not_left block next (stage.Awaiting Last at) todo e = cc

pub not_round : (block : List Stmt) (next : ℕ) (s : Stage) (todo : List Item) → is_loop s ≡ false → to_loop (level_items block next s todo) ≡ to_loop todo
not_round block next stage.Entering todo e = refl
not_round block next stage.Between todo e = refl
not_round block next stage.Begun todo e = refl
not_round block next stage.Testing todo e = cc
not_round block next stage.Stepping todo e = cc
not_round block next (stage.Acting Own at) todo e = refl
not_round block next (stage.Acting Start at) todo e = cc
not_round block next (stage.Acting Last at) todo e = cc
not_round block next (stage.Awaiting Own at) todo e = refl
not_round block next (stage.Awaiting Start at) todo e = cc
not_round block next (stage.Awaiting Last at) todo e = cc
