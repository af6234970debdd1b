-- How wide the lines of one loop can be.
use mathlib.Core.Path.{◌≡◌, refl, ap, ◌∙◌}
use mathlib.Core.Bool.{Bool, true, false}
use mathlib.Core.List.{List, [], ◌∷◌, ◌++◌, flatten}
use Prim.Native.Nat.{ℕ, suc, ◌+◌, ◌-◌, ◌*◌, ◌<◌, ◌≤◌}
use native.Mathlib.Omega.{arith}
use lib.Dec.{eqb}
use lib.ListN.{length, take, drop, get_or, length-append, length-take}
use lib.Seq.{get_or-take, get_or-drop}
use mir.Val as val
use mir.Syntax.{w16}
use borrow.Author.Tests.{eqb-true}
use Rattle.base_limits.specs.Limits as limits
use Rattle.base_limits.specs.States as stated
use Rattle.text_digits.specs.Numeral.{size}
use Rattle.text_digits.proofs.Laws.Sizes.{size_below}
use Rattle.program_lines.specs.declared.TheConstants.{WIDEST}
use Rattle.program_lines.specs.Lines.{line, joined, loop=, ring=, patch=}
use Rattle.program_lines.specs.Listing.{Shown, told, patch_lines, loop_lines}
use Rattle.program_lines.specs.Workings.Telling.{Fits}
use Rattle.program_lines.proofs.Laws.Answering.{line_most}
use Rattle.program_lines.proofs.Laws.Digits.{size_short}
use Rattle.program_lines.proofs.Laws.Lines.{joined_none, line_length, next_length, last_length, three_length, six_length}

-- every number is one of 16 bits
pub Short : List ℕ → Type 0
Short l = (i : ℕ) → i < length l → val.Fits w16 (get_or l i 0)

pub short_part : (r n : ℕ) (l : List ℕ) → ((i : ℕ) → val.Fits w16 (get_or l i 0)) → Short (take n (drop r l))
unfolding Short
short_part r n l h i m = rw (get_or-take n (drop r l) i 0 (omega (arith, length-take n (drop r l))), get_or-drop r l i 0) (h (r + i))

short_tail : (a : ℕ) (l : List ℕ) → Short (a ∷ l) → Short l
unfolding Short
short_tail a l h i m = h (suc i) (omega arith)

short_head : (a : ℕ) (l : List ℕ) → Short (a ∷ l) → size a ≤ 5
unfolding Short
short_head a l h = size_short a (h 0 (omega arith))

joined_wide : (l : List ℕ) → Short l → length (joined l) ≤ 6 * length l
joined_wide [] h = omega (arith, ap length joined_none)
joined_wide (a ∷ []) h = omega (arith, last_length a, short_head a [] h)
joined_wide (a ∷ b ∷ l) h = omega (arith, next_length a b l, short_head a (b ∷ l) h, joined_wide (b ∷ l) (short_tail a (b ∷ l) h))

patch_wide : (l : List ℕ) → Short l → length (patch_lines l) ≤ 8 * length l
unfolding patch_lines flatten
patch_wide [] h = omega arith
patch_wide (a ∷ []) h = omega arith
patch_wide (a ∷ b ∷ []) h = omega arith
patch_wide (a ∷ b ∷ c ∷ l) h =
    let i = short_tail a (b ∷ c ∷ l) h in
    let j = short_tail b (c ∷ l) i in
    omega (arith, length-append (line patch= (a ∷ b ∷ c ∷ [])) (patch_lines l), three_length patch= a b c, short_head a (b ∷ c ∷ l) h, short_head b (c ∷ l) i, short_head c l j, patch_wide l (short_tail c l j))

-- a patch has two triangles fewer than its ring has vertices, and is of a ring that is not long
share_few : (s : Shown) → Fits s → (length s.patch + 6 ≤ 3 * length s.ring) × (length s.patch + 6 ≤ 3 * limits.longest)
share_few s f = go (eqb s.kept.state stated.patched) refl
  where
    go : (t : Bool) → eqb s.kept.state stated.patched ≡ t → (length s.patch + 6 ≤ 3 * length s.ring) × (length s.patch + 6 ≤ 3 * limits.longest)
    go true e =
        let z : length s.patch ≡ 3 * (length s.ring - 2) = f.share ∙ rw e in
        (omega (arith, f.three), omega (arith, f.three, f.patched (eqb-true _ _ e)))
    go false e = let z : length s.patch ≡ 0 = f.share ∙ rw e in (omega (arith, f.three), omega arith)

-- the line `loop=`, by how many digits each of its numbers has at most
told_wide : (s : Shown) → Fits s → length (line loop= (told s.kept)) ≤ line_most
told_wide s f =
    let r = s.kept in
    omega (
      arith,
      six_length loop= r.length r.state r.weight r.first r.piece r.run,
      size_below 3 r.length (omega (arith, f.as_long, f.few)),
      size_below 0 r.state (omega (arith, f.state_small)),
      size_below 12 r.weight (omega (arith, f.weight_small)),
      size_below 3 r.first (omega (arith, f.first_small)),
      size_below 3 r.piece (omega (arith, f.piece_small)),
      size_below 9 r.run (omega (arith, f.run_small)),
    )

-- how wide the code says that they can be
abbrev pub widest : ℕ
widest = WIDEST

-- how wide they are at most, by the vertices of the ring and the corners of the patch
abbrev pub width : Shown → ℕ
width s = line_most + length ring= + 6 * length s.ring + 8 * length s.patch

pub width_most : (s : Shown) → Fits s → width s ≤ widest
width_most s f = omega (arith, (share_few s f).1, f.few)

-- and by the vertices alone: the triangles that a patch has fewer leave room for the key `ring=`
pub width_share : (s : Shown) → Fits s → width s ≤ line_most + 6 * length s.ring + 24 * length s.ring
width_share s f = omega (arith, (share_few s f).0)

pub loop_wide : (s : Shown) → Fits s → Short s.ring → Short s.patch → length (loop_lines s) ≤ width s
unfolding loop_lines
loop_wide s f a b =
    let x = length-append (line loop= (told s.kept)) (line ring= s.ring ++ patch_lines s.patch) in
    let y = length-append (line ring= s.ring) (patch_lines s.patch) in
    omega (arith, x, y, told_wide s f, line_length ring= s.ring, joined_wide s.ring a, patch_wide s.patch b)
