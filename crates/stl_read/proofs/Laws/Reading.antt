-- Reading, case by case, in the order of its refusals.
use mathlib.Core.Path.{◌≡◌, refl, sym, ap, ◌∙◌}
use mathlib.Core.Bool.{Bool, true, false, true≢false, cond}
use mathlib.Core.List.{List, [], ◌∷◌}
use Prim.Native.Nat.{ℕ, ◌*◌, ◌/◌, ◌≤◌, ◌<◌}
use lib.Dec.{leb}
use lib.ListN.{length}
use borrow.Author.Tests.{le-leb, lt-leb, leb-true}
use Rattle.std.specs.Prelude.{Ok, Err}
use Rattle.base_answers.specs.Numbers.{refusing}
use Rattle.base_answers.specs.declared.Refusal.{Refusal}
use Rattle.base_answers.specs.declared.Refusal.TheVariants as refusal
use Rattle.base_answers.specs.declared.Answer.{Answer}
use Rattle.base_answers.specs.Answers.{Words}
use Rattle.base_answers.specs.declared.Answer.TheVariants.{Done, Refused}
use Rattle.base_limits.specs.Limits as limits
use Rattle.surface_rules.specs.Buffers.{over}
use Rattle.surface_rules.specs.Refusals.{then_check, buffer_refusal, unnamed_refusal}
use Rattle.surface_rules.specs.Threes.{flat}
use Rattle.surface_rules.proofs.Laws.Thens.{then_refused, then_next}
use Rattle.surface_rules.proofs.Laws.Threes.{flat_length}
use Rattle.text_read.specs.Outcome.{ReadOutcome, read_outcome, not_read, deliver}
use Rattle.stl_facets.specs.Facets.{front, facets}
use Rattle.stl_rules.specs.Reading.{points_in, corners_in, size_refusal, file_refusal, read_refusal, reads_file}
use Rattle.stl_rules.proofs.Laws.Files.{corners_count, all_named}
use Rattle.stl_rules.proofs.Laws.Sizes.{misfit_short}
use Rattle.stl_read.specs.Workings.{Fitting, handed}

-- ---- handing over

module _ (ws cs words corners : List ℕ) where
  abbrev needed : Answer
  needed = buffer_refusal (length words ∷ length corners ∷ []) (length ws ∷ length cs ∷ [])

  -- where every corner names a point, the reading of a text without a line of a pitch does no more
  named_handed : unnamed_refusal cs (length ws / 3) ≡ Done → deliver 1 ws cs words corners ≡ handed ws cs words corners
  unfolding deliver handed
  named_handed e = rw e (go (refusing needed) refl)
    where
      whole : Answer → ReadOutcome
      whole a = cond (refusing a) (not_read a words corners) (record { answer = Done; pitch = 1; word_count = length ws; corner_count = length cs; words = over ws words; corners = over cs corners })

      go : (t : Bool) → refusing needed ≡ t → whole (then_check needed Done) ≡ whole needed
      go true q = ap whole (then_refused needed Done q)
      go false q = ap whole (then_next needed Done q) ∙ sym (ap (λ (t : Bool). cond t (not_read needed words corners) (whole Done)) q)

  pub short_handed : {r : Refusal} → Refused r ≡ buffer_refusal (length words ∷ length corners ∷ []) (length ws ∷ length cs ∷ []) → read_outcome (Err r) words corners ≡ handed ws cs words corners
  unfolding handed
  short_handed e = rw (← e)

  pub all_handed : {words' corners' : List ℕ} → Done ≡ buffer_refusal (length words ∷ length corners ∷ []) (length ws ∷ length cs ∷ []) → words' ≡ over ws words → corners' ≡ over cs corners
      → read_outcome (Ok (record { pitch = 1; words = length ws; corners = length cs })) words' corners' ≡ handed ws cs words corners
  unfolding handed
  all_handed e p q = rw (p, q) (rw (← e))

-- ---- one file

module _ (b words corners : List ℕ) where
  abbrev size : Answer
  size = size_refusal (length b) (facets b)

  abbrev points : ℕ
  points = length (points_in b)

  abbrev short : Answer
  short = buffer_refusal (length words ∷ length corners ∷ []) (3 * points ∷ 3 * facets b ∷ [])

  -- a file that is refused whatever is lent
  file_refused : {r : Refusal} → file_refusal b ≡ Refused r → read_outcome (Err r) words corners ≡ reads_file b words corners
  unfolding reads_file read_refusal
  file_refused e = rw e

  size_refused : {r : Refusal} → Refused r ≡ size → read_outcome (Err r) words corners ≡ reads_file b words corners
  unfolding file_refusal
  size_refused {r} e = file_refused (rw (← e) (then_refused (Refused r) (cond (leb points limits.points) Done Words) refl))

  pub short_refused : length b < front → read_outcome (Err refusal.Misfit) words corners ≡ reads_file b words corners
  short_refused l = size_refused (misfit_short (length b) (facets b) l)

  -- c is its count
  pub misfit_refused : (c : ℕ) {r : Refusal} → c ≡ facets b → Refused r ≡ size_refusal (length b) c → read_outcome (Err r) words corners ≡ reads_file b words corners
  misfit_refused c q e = size_refused (e ∙ ap (size_refusal (length b)) q)

  module _ (fits : refusing size ≡ false) where
    file_is : file_refusal b ≡ cond (leb points limits.points) Done Words
    unfolding file_refusal
    file_is = then_next size _ fits

    pub many_refused : limits.points < points → read_outcome (Err refusal.Words) words corners ≡ reads_file b words corners
    many_refused m = file_refused (file_is ∙ rw (lt-leb points limits.points m))

    pub reads_handed : points ≤ limits.points → handed (flat (points_in b)) (corners_in b) words corners ≡ reads_file b words corners
    unfolding handed reads_file read_refusal
    reads_handed m = rw (flat_length (points_in b), corners_count b, file_is, le-leb points limits.points m)

    -- Every corner names a point, so what the reading of a text would deliver is what is read.
    pub delivers : points ≤ limits.points → deliver 1 (flat (points_in b)) (corners_in b) words corners ≡ reads_file b words corners
    delivers m = named_handed (flat (points_in b)) (corners_in b) words corners (all_named b) ∙ reads_handed m

pub fitting : (b : List ℕ) (c : ℕ) → c ≡ facets b → Done ≡ size_refusal (length b) c → Fitting b c
fitting b c q e = record { fits = rw (← q, ← e) refl; count = q }

-- a file that is refused with neither 16, 2 nor 1
pub file_says : (b : List ℕ) → refusing (file_refusal b) ≡ false → (refusing (size_refusal (length b) (facets b)) ≡ false) × (length (points_in b) ≤ limits.points)
unfolding file_refusal
file_says b h = go (refusing size) refl (leb (length (points_in b)) limits.points) refl
  where
    size : Answer
    size = size_refusal (length b) (facets b)

    many : Bool → Answer
    many t = cond t Done Words

    go : (s : Bool) → refusing size ≡ s → (t : Bool) → leb (length (points_in b)) limits.points ≡ t → (refusing size ≡ false) × (length (points_in b) ≤ limits.points)
    go true e t f = absurd (true≢false (sym (ap refusing (then_refused size (many (leb (length (points_in b)) limits.points)) e) ∙ e) ∙ h))
    go false e true f = (e, leb-true _ _ f)
    go false e false f = absurd (true≢false (sym (ap refusing (then_next size (many (leb (length (points_in b)) limits.points)) e ∙ ap many f)) ∙ h))
