-- A whole text taken in, by its head and by what was taken in below it.
use mathlib.Core.Path.{◌≡◌, refl, ap, subst}
use mathlib.Core.List.{List}
use Prim.Native.Nat.{ℕ, ◌+◌, ◌-◌, ◌≤◌}
use native.Mathlib.Nat.{le_trans}
use native.Mathlib.Omega.{arith}
use native.Mathlib.Numerals.{add-one}
use lib.ListN.{length, take, drop, length-drop}
use lib.Seq.{take_all}
use Rattle.base_limits.specs.Limits as limits
use Rattle.surface_rules.specs.Threes.{flat}
use Rattle.text_rules.specs.Fault.{Fault}
use Rattle.text_rules.specs.Workings.Scanning.{Scanned}
use Rattle.std.specs.Prelude.{Ok, Err}
use Rattle.text_rules.proofs.Laws.Scanning.{Scan, wrong_parsed, kept}
use Rattle.text_rules.proofs.Laws.Taking.{fault_near}
use Rattle.text_sheet.specs.Sheet.{points, triangles, sheet, sheet_of}
use Rattle.text_sheet.specs.Workings.Heads.{HeadAt}
use Rattle.text_sheet.specs.Workings.Parse.{parse, Room}
use Rattle.text_sheet.proofs.Laws.Heads.{below}
use Rattle.text_sheet.proofs.Laws.Found.{head_nothing, text_under, fault_under, fault_alone}
use Rattle.text_sheet.proofs.Laws.Texts.{text_parse, fault_is}
use Rattle.text_read.specs.Workings.Taking.{TakesWhole}

module _ (text : List ℕ) (at : ℕ) (s : Scan) (a b words corners : List ℕ) (h : Scanned flat flat (parse (drop at text)) s a b words corners) where
  module _ {l : ℕ} (e : s ≡ Err l) where
    fault_there : Fault below (drop at text) l
    fault_there = fault_is (wrong_parsed flat flat (parse (drop at text)) s l a b words corners h e)

    line_few : l ≤ limits.points + limits.triangles + 3
    line_few = fault_near points triangles fault_there

    -- the line of the fault, and one later below the line of a pitch
    wrong_taken : {pitch : ℕ} → HeadAt text pitch at → at ≡ 0 → Fault sheet text l
    wrong_taken d z = fault_alone d z fault_there

    later_taken : {pitch : ℕ} → HeadAt text pitch at → (pitch ≡ 1 → ⊥) → Fault sheet text (l + 1)
    later_taken d o = rw add-one (fault_under d (λ z. o (head_nothing d z)) fault_there)

  whole_taken : {pitch n t : ℕ} → HeadAt text pitch at → s ≡ Ok (n, t) → TakesWhole text pitch n t a b words corners
  whole_taken {pitch} {n} {t} d e =
      let k = kept flat flat parse (drop at text) s n t a b words corners h e in
      record {
        said = sheet_of pitch k.xs k.ys;
        text = text_under d (text_parse k.is);
        pitch_is = refl;
        points_are = k.first_count;
        triangles_are = k.second_count;
        words_laid = k.first_over;
        corners_laid = k.second_over;
      }

-- where there is no head, what is taken in is the whole text, at pitch 1
module _ (text : List ℕ) (s : Scan) (a b words corners : List ℕ) (h : Scanned flat flat (parse text) s a b words corners) (d : HeadAt text 1 0) where
  pub wrong_bare : {l : ℕ} → s ≡ Err l → Fault sheet text l
  wrong_bare e = wrong_taken text 0 s a b words corners h e d refl

  pub whole_bare : {n t : ℕ} → s ≡ Ok (n, t) → TakesWhole text 1 n t a b words corners
  whole_bare e = whole_taken text 0 s a b words corners h d e

-- the bytes from a place on, as a part of the text
part_is : (text : List ℕ) (at : ℕ) → take (length text - at) (drop at text) ≡ drop at text
part_is text at = take_all (length text - at) (drop at text) (omega (arith, length-drop at text))

module _ (text : List ℕ) (at : ℕ) (s : Scan) (a b words corners : List ℕ) (h : Scanned flat flat (parse (take (length text - at) (drop at text))) s a b words corners) where
  here : Scanned flat flat (parse (drop at text)) s a b words corners
  here = subst (λ (l : List ℕ). Scanned flat flat (parse l) s a b words corners) (part_is text at) h

  pub few_below : {l : ℕ} → s ≡ Err l → l ≤ limits.points + limits.triangles + 3
  few_below e = line_few text at s a b words corners here e

  pub later_below : {l : ℕ} {pitch : ℕ} → s ≡ Err l → HeadAt text pitch at → (pitch ≡ 1 → ⊥) → Fault sheet text (l + 1)
  later_below e = later_taken text at s a b words corners here e

  pub whole_below : {pitch n t : ℕ} → HeadAt text pitch at → s ≡ Ok (n, t) → TakesWhole text pitch n t a b words corners
  whole_below = whole_taken text at s a b words corners here

-- room for a text is room for what stands below its head
pub room_below : (text : List ℕ) (at size most room : ℕ) → Room size most (length text) room → Room size most (length (take (length text - at) (drop at text))) room
unfolding Room
room_below text at size most room r k l m = r k l (le_trans m (omega (arith, ap length (part_is text at), length-drop at text)))
