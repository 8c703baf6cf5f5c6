-- The view of what happened to files is one.
use Rattle.std.proofs.Common.{◌^◌, List, length, refl, sym, subst, arith}
use Rattle.std.proofs.lemmas.List.{take_all}
use Rattle.disk_model.specs.Disk.{IsView}
use Rattle.disk_model.specs.Files.{Change, MayLeave, files_after, view_of}
use Rattle.disk_model.specs.Sound.{all-sound}

pub lawful : (changes : List Change) → IsView (2 ^ 32) (view_of changes)
lawful changes = record {
  same_files = refl;
  seen_left = λ f lt. (all-sound changes f).seen;
  counts_now = λ t c le left. record {
    moment = length changes;
    later = le;
    within = omega arith;
    left = λ f lt. subst (λ (l : List Change). MayLeave (files_after l f) (c f)) (sym (take_all (length changes) changes (omega arith))) (left f lt);
  };
  only_now = λ c was f lt. subst (λ (l : List Change). MayLeave (files_after l f) (c f)) (take_all was.moment changes (omega (arith, was.later))) (was.left f lt);
}
