-- A loop over lines that lays their numbers into a buffer: what is left to read, laid over the present buffer, gives the whole.
use mathlib.Core.Path.{◌≡◌, refl, sym, ap, ◌∙◌}
use mathlib.Core.List.{List, [], ◌∷◌}
use Prim.Native.Nat.{ℕ, suc, ◌+◌, ◌-◌, ◌*◌, ◌<◌, ◌≤◌}
use native.Mathlib.Omega.{arith}
use native.Mathlib.Nat.{add_assoc, zero-add}
use lib.ListN.{length, drop, set, length-set, length-drop}
use Rattle.surface_rules.specs.Buffers.{over, laid}
use Rattle.surface_rules.specs.Threes.{Three, flat}
use Rattle.surface_rules.proofs.Laws.Laid.{laid_none}
use Rattle.text_digits.specs.Workings.Reading.{Read, wrong, got}
use Rattle.text_digits.proofs.Laws.Lay.{laid_cons}
use Rattle.text_rules.specs.Workings.Parse.{Rows, stuck, all, more, rows, Outline, stops, leaves, outline, values}
use Rattle.text_sheet.specs.Workings.Parse.{Room}

-- a buffer's start is its place 0
pub over_laid : (front whole : List ℕ) → over front whole ≡ laid 0 front whole
unfolding over laid
over_laid front whole = rw (zero-add (length front))

-- i lines more before an outline
abbrev push : ℕ → Outline → Outline
push i (stops k) = stops (i + k)
push i (leaves rest) = leaves rest

-- How what lines say is laid out as numbers: those of some lines, the place of line i, and a buffer with line i's written there.
pub record Layout (A : Type 0) : Type 0 where
  pub spread : List A → List ℕ
  pub place : ℕ → ℕ
  pub write : List ℕ → ℕ → A → List ℕ
  pub none : spread [] ≡ []
  pub start : place 0 ≡ 0
  pub keeps : (whole : List ℕ) (i : ℕ) (a : A) → length (write whole i a) ≡ length whole
  pub lays : (i : ℕ) (a : A) (l : List A) (whole : List ℕ) → place (i + 1) ≤ length whole
      → laid (place i) (spread (a ∷ l)) whole ≡ laid (place (i + 1)) (spread l) (write whole i a)

pub lay_three : (k i j l : ℕ) (front whole : List ℕ) → k + 3 ≤ length whole → laid k (i ∷ j ∷ l ∷ front) whole ≡ laid (k + 3) front (set (set (set whole k i) (k + 1) j) (k + 2) l)
lay_three k i j l front whole h =
    laid_cons k i (j ∷ l ∷ front) whole (omega arith)
    ∙ laid_cons (k + 1) j (l ∷ front) (set whole k i) (rw length-set (omega arith))
    ∙ laid_cons (k + 1 + 1) l front (set (set whole k i) (k + 1) j) (rw (length-set, length-set) (omega arith))
    ∙ rw (add_assoc k 1 1, add_assoc k 2 1)

-- three numbers a line, and one
abbrev pub by_threes : Layout Three
by_threes =
    record {
      spread = flat;
      place = λ i. 3 * i;
      write = λ whole i t. set (set (set whole (3 * i) t.first) (3 * i + 1) t.second) (3 * i + 2) t.third;
      none = refl;
      start = refl;
      keeps = λ whole i t. rw (length-set, length-set, length-set);
      lays = λ i t l whole h.
          lay_three (3 * i) t.first t.second t.third (flat l) whole (omega arith)
          ∙ ap (λ (k : ℕ). laid k (flat l) (set (set (set whole (3 * i) t.first) (3 * i + 1) t.second) (3 * i + 2) t.third)) (omega arith);
    }

abbrev pub by_ones : Layout ℕ
by_ones =
    record {
      spread = λ l. l;
      place = λ i. i;
      write = λ whole i s. set whole i s;
      none = refl;
      start = refl;
      keeps = λ whole i s. rw length-set;
      lays = λ i s l whole h. laid_cons i s l whole (omega arith);
    }

module _ {A : Type 0} (L : Layout A) where
  -- i of n lines are read, each of at least `size` bytes
  pub record Going (read : List ℕ → Read A) (size n : ℕ) (bytes whole₀ : List ℕ) (i : ℕ) (rest whole : List ℕ) : Type 0 where
    pub within : i ≤ n
    pub same : length whole ≡ length whole₀
    pub taken : length rest + size * i ≤ length bytes
    pub counts : outline (rows read n bytes) ≡ push i (outline (rows read (n - i) rest))
    pub lays : laid 0 (L.spread (values (rows read n bytes))) whole₀ ≡ laid (L.place i) (L.spread (values (rows read (n - i) rest))) whole

  outline_more : (a : A) (r : Rows A) (i : ℕ) → push i (outline (more a r)) ≡ push (i + 1) (outline r)
  outline_more a (stuck l) i = ap stops (omega arith)
  outline_more a (all l rest) i = refl

  values_more : (a : A) (r : Rows A) → values (more a r) ≡ a ∷ values r
  values_more a (stuck l) = refl
  values_more a (all l rest) = refl

  pub going_begins : {read : List ℕ → Read A} {size n : ℕ} {bytes whole₀ : List ℕ} → Going read size n bytes whole₀ 0 bytes whole₀
  going_begins {read} {n = n} {bytes = bytes} =
      let e : n - 0 ≡ n = omega arith in
      record { within = omega arith; same = refl; taken = omega arith; counts = rw e (none (outline (rows read n bytes))); lays = rw (e, L.start) }
    where
      none : (o : Outline) → o ≡ push 0 o
      none (stops k) = ap stops (omega arith)
      none (leaves rest) = refl

module _ {A : Type 0} {L : Layout A} {read : List ℕ → Read A} {size n : ℕ} {bytes whole₀ : List ℕ} {i : ℕ} {rest whole : List ℕ} (g : Going L read size n bytes whole₀ i rest whole) where
  left : i < n → n - i ≡ suc (n - (i + 1))
  left h = omega arith

  -- what a line takes is taken off what is left
  taken_more : (next : List ℕ) → size + length next ≤ length rest → length next + size * (i + 1) ≤ length bytes
  taken_more next l = omega (arith, g.taken)

  pub going_more : {a : A} {next : List ℕ} → i < n → size + length next ≤ length rest → L.place (i + 1) ≤ length whole → read rest ≡ got a next
      → Going L read size n bytes whole₀ (i + 1) next (L.write whole i a)
  unfolding rows
  going_more {a} {next} h l room e =
      record {
        within = omega arith;
        same = L.keeps whole i a ∙ g.same;
        taken = taken_more next l;
        counts = g.counts ∙ rw (left h, e) (outline_more L a (rows read (n - (i + 1)) next) i);
        lays = g.lays ∙ rw (left h, e, values_more L a (rows read (n - (i + 1)) next)) (L.lays i a (values (rows read (n - (i + 1)) next)) whole room);
      }

  pub going_stuck : i < n → read rest ≡ wrong → (stops i ≡ outline (rows read n bytes)) × (whole ≡ over (L.spread (values (rows read n bytes))) whole₀) × Unit {0}
  unfolding rows
  going_stuck h e = (
    sym (g.counts ∙ rw (left h, e) (ap stops (omega arith))),
    sym (over_laid (L.spread (values (rows read n bytes))) whole₀ ∙ g.lays ∙ rw (left h, e, L.none) (laid_none (L.place i) whole)),
    tt,
  )

  pub going_ends : {place long : ℕ} → n ≤ i → place ≤ long
      → (leaves rest ≡ outline (rows read n bytes)) × (whole ≡ over (L.spread (values (rows read n bytes))) whole₀) × (place ≤ long)
  unfolding rows
  going_ends h p =
      let e : n - i ≡ 0 = omega (arith, g.within) in
      (sym (g.counts ∙ rw e), sym (over_laid (L.spread (values (rows read n bytes))) whole₀ ∙ g.lays ∙ rw (e, L.none) (laid_none (L.place i) whole)), p)

-- a line takes at least `size` bytes
abbrev pub Takes : {A : Type 0} → (List ℕ → Read A) → ℕ → Type 0
Takes {A} read size = (bytes rest : List ℕ) (a : A) → read bytes ≡ got a rest → size + length rest ≤ length bytes

-- a loop over the lines of a text from a place on: where there is room for what can stand in the text, there is for the next line
module _ {read : List ℕ → Read Three} {size : ℕ} (takes : Takes read size) (text : List ℕ) (at : ℕ) {n : ℕ} {whole₀ : List ℕ} {i : ℕ} {rest whole : List ℕ}
    (g : Going by_threes read size n (drop at text) whole₀ i rest whole) (r : Room size n (length text) (length whole₀)) (h : i < n) {t : Three} {next : List ℕ} (e : read rest ≡ got t next) where
  pub next_room : 3 * i + 3 ≤ length whole
  unfolding Room
  next_room =
      let l : length next + size * (i + 1) ≤ length (drop at text) = taken_more g next (takes rest next t e) in
      omega (arith, r (i + 1) (omega arith) (omega (arith, length-drop at text)), g.same)

  pub next_going : Going by_threes read size n (drop at text) whole₀ (i + 1) next (set (set (set whole (3 * i) t.first) (3 * i + 1) t.second) (3 * i + 2) t.third)
  next_going = let l : 3 * i + 3 ≤ length whole = next_room in going_more g h (takes rest next t e) (omega arith) e
