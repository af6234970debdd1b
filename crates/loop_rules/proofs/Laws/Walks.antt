-- What a whole walk lists, in one record that can be put together cycle by cycle: its loops are loops of 3 edges or more, and have the
-- edges walked, since a walk that comes back to where it began leaves no path behind.
use mathlib.Core.Path.{◌≡◌, refl, ap₂, ◌∙◌, sym}
use mathlib.Core.List.{List, [], ◌++◌, flatten}
use Prim.Native.Nat.{ℕ, ◌+◌}
use lib.ListN.{length, length-append}
use Rattle.surface_rules.proofs.Laws.Lists.{flatten_append}
use Rattle.loop_rules.specs.Loops.{grow_all}
use Rattle.loop_rules.proofs.Laws.Distinct.{Distinct}
use Rattle.loop_rules.proofs.Laws.Each.{Each, each_append}
use Rattle.loop_rules.proofs.Laws.Counts.{Same, same_append}
use Rattle.loop_rules.proofs.Laws.Linked.{Closed}
use Rattle.loop_rules.proofs.Laws.Paths.{Loop, fresh, linked_loops}
use Rattle.loop_rules.proofs.Laws.Kept.{total, total_append, closed_same, closed_total}
use Rattle.loop_rules.proofs.Laws.Places.{Parted, same_parted}
use Rattle.loop_rules.proofs.Laws.Three.{Proper, Threes, threes_append, linked_threes}

-- ls are the loops of walks over the edges es
pub record Walks (corners : List ℕ) (ls : List (List ℕ)) (es : List ℕ) : Type 0 where
  pub loops : Each (Loop corners) ls
  pub threes : Threes ls
  pub same : Same (flatten ls) es
  pub sum : total ls ≡ length es

module _ (corners : List ℕ) where
  pub walks_none : Walks corners [] []
  unfolding Threes Each Same flatten total
  walks_none = record { loops = tt; threes = tt; same = λ e. refl; sum = refl }

  pub walks_append : (a : List (List ℕ)) (es : List ℕ) (b : List (List ℕ)) (fs : List ℕ) → Walks corners a es → Walks corners b fs → Walks corners (a ++ b) (es ++ fs)
  walks_append a es b fs h k =
      record {
        loops = each_append (Loop corners) a b h.loops k.loops;
        threes = threes_append a b h.threes k.threes;
        same = rw flatten_append (same_append (flatten a) es (flatten b) fs h.same k.same);
        sum = total_append a b ∙ ap₂ (λ (m n : ℕ). m + n) h.sum k.sum ∙ sym (length-append es fs);
      }

  -- a walk over proper edges that comes back to where it began
  pub closed_walks : (es : List ℕ) → Closed corners es → Proper corners es → Walks corners (grow_all corners fresh es).listed es
  closed_walks es h p =
      record {
        loops = linked_loops corners es h.linked;
        threes = linked_threes corners es h.linked p;
        same = closed_same corners es h;
        sum = closed_total corners es h;
      }

  -- each edge walked lies in exactly one loop, where all are different
  pub walks_parted : (ls : List (List ℕ)) (es : List ℕ) → Walks corners ls es → Distinct es → Parted ls es
  walks_parted ls es h d = same_parted ls es h.same d
