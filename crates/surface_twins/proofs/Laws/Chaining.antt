-- One half-edge more is chained: it becomes the head of its bucket, the old head comes behind it, and all others stay.
use mathlib.Core.Path.{◌≡◌, sym, ap, ◌∙◌}
use mathlib.Core.List.{List}
use mathlib.Core.Logic.{⊎_elim}
use Prim.Native.Nat.{ℕ, ◌+◌, ◌<◌, ◌≤◌}
use native.Mathlib.Omega.{arith}
use native.Mathlib.Nat.{not-suc-le-zero}
use lib.ListN.{length, get_or, set, replicate, length-set, length-replicate, get_or-replicate}
use lib.Seq.{get_or-set_same, get_or-set_other}
use Rattle.surface_rules.specs.Edges.{end_of}
use Rattle.surface_rules.proofs.Laws.Tests.{eq_or_not}
use Rattle.surface_rules.proofs.Laws.Lists.{next_set}
use Rattle.surface_twins.specs.Workings.Chains.{home, in_bucket, top, Headed, Linked, Ended, Chained}
use Rattle.surface_twins.proofs.Laws.Tops.{top_none, top_hit, top_miss}
use Rattle.surface_twins.proofs.Laws.Buckets.{bucket_home, bucket_other}

-- before the first half-edge
pub chained_begins : (size many : ℕ) (corners : List ℕ) → 0 < size → length corners ≤ many → Chained size corners 0 (replicate size 0) (replicate many 0) (replicate many 0)
unfolding Headed Linked Ended
chained_begins size many corners some enough =
    record {
      some = some;
      headed = λ b l. get_or-replicate {A = ℕ} size b 0 0 l ∙ sym (top_none (in_bucket size corners b));
      linked = λ k l. absurd (not-suc-le-zero l);
      ended = λ k l. absurd (not-suc-le-zero l);
      heads_long = length-replicate {A = ℕ} size 0;
      links_long = rw (length-replicate {A = ℕ}) enough;
      ends_long = rw (length-replicate {A = ℕ}) enough;
    }

module _ (size : ℕ) (corners heads links ends : List ℕ) (h : ℕ) (c : Chained size corners h heads links ends) (edge : h < length corners) (b last v : ℕ) (small : b < size) (hb : b ≡ home size corners h) (hl : last ≡ get_or heads b 0) (hv : v ≡ end_of corners h) where
  headed_more : Headed size corners (h + 1) (set heads b (h + 1))
  unfolding Headed
  headed_more a l =
      ⊎_elim
      (λ (q : a ≡ b). rw (q, get_or-set_same heads b (h + 1) 0 (rw c.heads_long small)) (sym (top_hit (in_bucket size corners b) h (bucket_home size corners b h (sym hb)))))
      (λ (q : a ≡ b → ⊥). get_or-set_other heads b a (h + 1) 0 q ∙ c.headed a l ∙ sym (top_miss (in_bucket size corners a) h (bucket_other size corners a h (λ e. q (sym (hb ∙ e))))))
      (eq_or_not a b)

  linked_more : Linked size corners (h + 1) (set links h last)
  unfolding Linked Headed
  linked_more =
      next_set (λ (k x : ℕ). x ≡ top (in_bucket size corners (home size corners k)) k) links h last (let l : length corners ≤ length links = c.links_long in omega arith) c.linked
      (hl ∙ c.headed b small ∙ ap (λ (z : ℕ). top (in_bucket size corners z) h) hb)

  ended_more : Ended corners (h + 1) (set ends h v)
  unfolding Ended
  ended_more = next_set (λ (k x : ℕ). x ≡ end_of corners k) ends h v (let l : length corners ≤ length ends = c.ends_long in omega arith) c.ended hv

  pub chained_more : Chained size corners (h + 1) (set heads b (h + 1)) (set links h last) (set ends h v)
  chained_more =
      record {
        some = c.some;
        headed = headed_more;
        linked = linked_more;
        ended = ended_more;
        heads_long = length-set heads b (h + 1) ∙ c.heads_long;
        links_long = rw (length-set links h last) c.links_long;
        ends_long = rw (length-set ends h v) c.ends_long;
      }
