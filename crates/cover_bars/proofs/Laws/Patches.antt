-- A patch that stands in a buffer names no point but the ring's.
use mathlib.Core.Path.{◌≡◌, sym, ap, ◌∙◌, subst}
use mathlib.Core.List.{List, ◌∷◌, ◌++◌}
use mathlib.Core.Logic.{⊎_elim}
use Prim.Native.Nat.{ℕ, zero, suc, ◌+◌, ◌-◌, ◌<◌, ◌≤◌}
use native.Mathlib.Nat.{not-suc-le-zero, le_refl}
use native.Mathlib.Omega.{arith}
use lib.ListN.{length, get_or, take, length-append, get_or-append}
use lib.Seq.{slice, length-slice, get_or-drop, get_or-take, get_or-append-add}
use Rattle.base_limits.specs.Limits as limits
use Rattle.surface_rules.proofs.Laws.Tests.{lt_or_le}
use Rattle.cover_rules.specs.Covers.{Cover, empty, apex, Covers, triangles, corners_of, patch_of}
use Rattle.cover_rules.proofs.Laws.Counted.{covers_forward}
use Rattle.cover_rules.proofs.Laws.Corners.{corners_append}

-- ---- what holds of each corner

abbrev Each : (ℕ → Type 0) → List ℕ → Type 0
Each P l = (i : ℕ) → i < length l → P (get_or l i 0)

each_append : (P : ℕ → Type 0) (l m : List ℕ) → Each P l → Each P m → Each P (l ++ m)
each_append P l m f g i s =
    ⊎_elim
    (λ (a : i < length l). subst P (sym (get_or-append l m 0 i a)) (f i a))
    (λ (a : length l ≤ i).
    let n : length (l ++ m) ≡ length l + length m = length-append l m in
    let e : length l + (i - length l) ≡ i = omega arith in
    subst P (sym (get_or-append-add l m (i - length l) 0) ∙ ap (λ (z : ℕ). get_or (l ++ m) z 0) e) (g (i - length l) (omega arith)))
    (lt_or_le i (length l))

each_three : (P : ℕ → Type 0) (a b c : ℕ) (l : List ℕ) → P a → P b → P c → Each P l → Each P (a ∷ (b ∷ (c ∷ l)))
each_three P a b c l x y z f zero s = x
each_three P a b c l x y z f (suc zero) s = y
each_three P a b c l x y z f (suc (suc zero)) s = z
each_three P a b c l x y z f (suc (suc (suc i))) s = f i (omega arith)

corners_each : (P : ℕ → Type 0) (vertex : ℕ → ℕ) (n : ℕ) → ((j : ℕ) → j ≤ n → P (vertex j)) → (i k : ℕ) (c : Cover) → Covers i k c → k ≤ n → Each P (corners_of vertex (triangles i k c))
corners_each P vertex n w i k empty h l = λ j s. absurd (not-suc-le-zero s)
corners_each P vertex n w i k (apex m c d) h l =
    let lo : i < m = h.0 in
    let hi : m < k = h.1 in
    each_three P (vertex i) (vertex k) (vertex m) (corners_of vertex (triangles i m c ++ triangles m k d)) (w i (omega arith)) (w k l) (w m (omega arith))
    (subst (Each P) (sym (corners_append vertex (triangles i m c) (triangles m k d)))
    (each_append P (corners_of vertex (triangles i m c)) (corners_of vertex (triangles m k d))
    (corners_each P vertex n w i m c h.2 (omega arith))
    (corners_each P vertex n w m k d h.3 l)))

slice_at : (l : List ℕ) (p end i : ℕ) → p ≤ i → i < end → get_or (slice p end l) (i - p) 0 ≡ get_or l i 0
slice_at l p end i s m =
    let e : p + (i - p) ≡ i = omega arith in
    get_or-drop p (take end l) (i - p) 0 ∙ ap (λ (z : ℕ). get_or (take end l) z 0) e ∙ get_or-take end l i 0 m

pub patch_inside : (patches : List ℕ) (p end : ℕ) (ring : List ℕ) (c : Cover) → end ≤ length patches → slice p end patches ≡ patch_of ring c → Covers 0 (length ring - 1) c
    → ((j : ℕ) → j < length ring → get_or ring j 0 < limits.points) → (i : ℕ) → p ≤ i → i < end → get_or patches i 0 < limits.points
patch_inside patches p end ring c r is h w i s m =
    let f : 0 < length ring - 1 = covers_forward 0 (length ring - 1) c h in
    let n : length (slice p end patches) ≡ end - p = length-slice p end patches r in
    let a : Each (λ (x : ℕ). x < limits.points) (slice p end patches) =
    subst (Each (λ (x : ℕ). x < limits.points)) (sym is)
    (corners_each (λ (x : ℕ). x < limits.points) (λ (j : ℕ). get_or ring j 0) (length ring - 1) (λ j l. w j (omega arith)) 0 (length ring - 1) c h (le_refl (length ring - 1))) in
    subst (λ (x : ℕ). x < limits.points) (slice_at patches p end i s m) (a (i - p) (omega arith))
