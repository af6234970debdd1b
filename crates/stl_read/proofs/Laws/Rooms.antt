-- Little scratch is enough for a file of few facets, and for any other that for a whole surface.
use mathlib.Core.Path.{◌≡◌, sym, ap, ap₂, ◌∙◌, subst}
use mathlib.Core.List.{List, [], ◌∷◌}
use Prim.Native.Nat.{ℕ, zero, suc, ◌+◌, ◌*◌, ◌≤◌, ◌<◌}
use native.Mathlib.Omega.{arith}
use lib.ListN.{length, take, replicate, length-replicate}
use Rattle.base_limits.specs.Limits as limits
use Rattle.surface_rules.specs.Threes.{flat}
use Rattle.surface_rules.proofs.Laws.Threes.{flat_length}
use Rattle.text_read.specs.Outcome.{ReadOutcome}
use Rattle.stl_facets.specs.Facets.{front, facet_bytes, facets}
use Rattle.stl_rules.specs.Reading.{points_in, corners_in, reads_file}
use Rattle.stl_rules.proofs.Laws.Files.{corners_count}
use Rattle.stl_rules.proofs.Laws.Sizes.{size_says}
use Rattle.std.specs.Prelude.{Option, Some, None}
use Rattle.stl_gather.specs.Gathering.{GatherRoom, Gathered, Gathers}
use Rattle.stl_gather.proofs.Theorems.{points_few_by_corners}
use Rattle.stl_read.specs.Workings.{Fitting, ReadRoom, handed}
use Rattle.stl_read.proofs.Laws.Reading.{reads_handed}

-- ---- the scratch

module _ (file : List ℕ) (n : ℕ) (fit : Fitting file n) where
  says : (length file ≡ front + facet_bytes * facets file) × (facets file ≤ limits.triangles)
  says = size_says (length file) (facets file) fit.fits

  -- room for so many points and corners, in so many buckets
  scratch : (ws cs heads links : ℕ) → 0 < heads → 3 * links ≤ ws → links ≤ limits.points → 3 * n ≤ cs
      → GatherRoom file (replicate ws 0) (replicate cs 0) (replicate heads 0) (replicate links 0)
  scratch ws cs heads links some words few corners =
      record {
        whole = says.0;
        few = says.1;
        some = rw (length-replicate {A = ℕ} heads 0) some;
        empty = rw (length-replicate {A = ℕ} heads 0);
        words_long = rw (length-replicate {A = ℕ} links 0, length-replicate {A = ℕ} ws 0) words;
        links_few = rw (length-replicate {A = ℕ} links 0) few;
        room = rw (length-replicate {A = ℕ} cs 0, ← fit.count) corners;
      }

  -- a bucket and more for each point that k facets can have
  pub few_room : (k : ℕ) → 0 < k → 3 * k ≤ limits.points → n ≤ k → ReadRoom file (replicate (9 * k) 0) (replicate (3 * k) 0) (replicate (4 * k) 0) (replicate (3 * k) 0) n
  few_room k some most l =
      record {
        fitting = fit;
        room = scratch (9 * k) (3 * k) (4 * k) (3 * k) (omega arith) (omega arith) (omega arith) (omega arith);
        many = λ m. let q = points_few_by_corners file in let e = fit.count in let z = length-replicate {A = ℕ} (3 * k) 0 in absurd (omega arith);
      }

  pub many_room : ReadRoom file (replicate limits.words 0) (replicate limits.corners 0) (replicate limits.points 0) (replicate limits.points 0) n
  many_room =
      record {
        fitting = fit;
        room = scratch limits.words limits.corners limits.points limits.points (omega arith) (omega arith) (omega arith) (let k = says.1 in let e = fit.count in omega arith);
        many = λ m. subst (λ (z : ℕ). z < length (points_in file)) (length-replicate {A = ℕ} limits.points 0) m;
      }

-- ---- what was gathered in it

take_le : (k : ℕ) (l : List ℕ) → length (take k l) ≡ k → k ≤ length l
take_le zero l e = omega arith
take_le (suc k) [] e = absurd (omega arith)
take_le (suc k) (x ∷ l) e = let z = take_le k l (omega (arith, e)) in omega arith

pub too_many : {file ws cs heads links : List ℕ} {n : ℕ} {r : Option ℕ} (ws' cs' : List ℕ) → ReadRoom file ws cs heads links n → Gathers file (length links) r ws' cs' → r ≡ None
    → limits.points < length (points_in file)
unfolding Gathers
too_many {file} {ws} {cs} {heads} {links} ws' cs' room g e = room.many (subst (λ (z : Option ℕ). Gathers file (length links) z ws' cs') e g)

-- m points were met in a file of n facets: their words and their numbers begin two lists
pub record Taken (file : List ℕ) (m n : ℕ) (ws cs : List ℕ) : Type 0 where
  pub fitting : Fitting file n
  pub few : m ≤ limits.points
  pub count : m ≡ length (points_in file)
  pub words_are : take (3 * m) ws ≡ flat (points_in file)
  pub corners_are : take (3 * n) cs ≡ corners_in file

pub taken : {file ws cs heads links ws' cs' : List ℕ} {n m : ℕ} {r : Option ℕ} → ReadRoom file ws cs heads links n → Gathers file (length links) r ws' cs' → r ≡ Some m
    → Taken file m n ws' cs'
unfolding Gathers
taken {file} {ws} {cs} {heads} {links} {ws'} {cs'} {n} {m} room g e =
    let a : Gathered file (length links) m ws' cs' = subst (λ (z : Option ℕ). Gathers file (length links) z ws' cs') e g in
    record {
      fitting = room.fitting;
      few = let p = a.within in let q = room.room.links_few in omega arith;
      count = a.count;
      words_are = a.words_are;
      corners_are = ap (λ (z : ℕ). take (3 * z) cs') room.fitting.count ∙ a.corners_are;
    }

module _ {file : List ℕ} {m n : ℕ} {ws cs : List ℕ} (t : Taken file m n ws cs) where
  pub words_in : 3 * m ≤ length ws
  words_in = take_le (3 * m) ws (ap length t.words_are ∙ flat_length (points_in file) ∙ ap (λ (z : ℕ). 3 * z) (sym t.count))

  pub corners_inside : 3 * n ≤ length cs
  corners_inside = take_le (3 * n) cs (ap length t.corners_are ∙ corners_count file ∙ ap (λ (z : ℕ). 3 * z) (sym t.fitting.count))

  pub read_whole : (o : ReadOutcome) (words corners : List ℕ) → o ≡ handed (take (3 * m) ws) (take (3 * n) cs) words corners → o ≡ reads_file file words corners
  read_whole o words corners q =
      q
      ∙ ap₂ (λ (x y : List ℕ). handed x y words corners) t.words_are t.corners_are
      ∙ reads_handed file words corners t.fitting.fits (subst (λ (z : ℕ). z ≤ limits.points) t.count t.few)
