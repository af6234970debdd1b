-- A patch as it is laid is the cover that it was laid from: its corners taken by threes are the cover's triangles, in the cover's own order
-- and each begun at its first corner.
use mathlib.Core.Path.{◌≡◌, refl, sym, ap, ◌∙◌, subst}
use mathlib.Core.Logic.{inl}
use mathlib.Core.List.{List, [], ◌∷◌, ◌++◌, map}
use Prim.Native.Nat.{ℕ, ◌+◌, ◌-◌}
use native.Mathlib.Omega.{arith}
use lib.ListN.{length, length-append}
use lib.Seq.{take_at}
use Rattle.surface_rules.specs.Threes.{threes}
use Rattle.cover_rules.specs.Covers.{Cover, Covers, Triangle, triangles, corners_of, patch_of, vertex_of}
use Rattle.cover_rules.specs.Sets.{ListsTriangles, named}
use Rattle.cover_rules.proofs.Laws.Corners.{patch_length}
use Rattle.judge_rules.specs.Faults.{share, IsCover}

pub lists_itself : (ts : List Triangle) → ListsTriangles ts ts
lists_itself [] = refl
lists_itself (t ∷ ts) = ([], ts, t, refl, inl refl, lists_itself ts)

pub triples_corners : (vertex : ℕ → ℕ) (ts : List Triangle) → threes (corners_of vertex ts) ≡ map (named vertex) ts
triples_corners vertex [] = refl
triples_corners vertex (t ∷ ts) = ap (λ (us : List Triangle). named vertex t ∷ us) (triples_corners vertex ts)

pub triples_patch : (ring : List ℕ) (c : Cover) → threes (patch_of ring c) ≡ map (named (vertex_of ring)) (triangles 0 (length ring - 1) c)
triples_patch ring c = triples_corners (vertex_of ring) (triangles 0 (length ring - 1) c)

-- whatever comes behind it
pub patch_is_cover : (ring : List ℕ) (c : Cover) (rest : List ℕ) → Covers 0 (length ring - 1) c → IsCover ring (patch_of ring c ++ rest) c
patch_is_cover ring c rest h =
    let e : length (patch_of ring c) ≡ share ring = patch_length ring c h in
    let f : length (patch_of ring c ++ rest) ≡ length (patch_of ring c) + length rest = length-append (patch_of ring c) rest in
    record {
      there = omega arith;
      covers = (
        h,
        subst (λ (s : List Triangle). ListsTriangles s (map (named (vertex_of ring)) (triangles 0 (length ring - 1) c)))
            (sym (ap threes (take_at (patch_of ring c) rest (share ring) e) ∙ triples_patch ring c))
            (lists_itself (map (named (vertex_of ring)) (triangles 0 (length ring - 1) c))),
      );
    }
