-- The tray at the start, the room on it for each ring, and the tray that a loop leaves to the next one.
use mathlib.Core.Path.{◌≡◌, refl, sym, ap, ◌∙◌, subst}
use mathlib.Core.List.{List, [], ◌++◌, append-nil}
use Prim.Native.Nat.{ℕ, zero, suc, ◌+◌, ◌-◌, ◌*◌, ◌%◌, ◌<◌, ◌≤◌}
use native.Mathlib.Omega.{arith}
use lib.Ieee.{Float}
use lib.ListN.{length, get_or, replicate, length-replicate}
use Rattle.base_limits.specs.Limits as limits
use Rattle.cover_bars.specs.Workings.Chains.{Tells, InputRoom}
use Rattle.cover_column.specs.Workings.Columns.{TableFor}
use Rattle.fill_scratch.specs.Workings.Rings.{Input}
use Rattle.fill_scratch.specs.Workings.Scratch.{Scratch}
use Rattle.fill_scratch.specs.Workings.Tray.{Tray, tray, EdgeRoom, TrayReady, TrayRoom}
use Rattle.fill_scratch.specs.Workings.Lent.{trayed, Same}
use Rattle.fill_scratch.specs.declared.Tray as passed

-- an array of zeros
abbrev pub noughts : ℕ → List ℕ
noughts n = replicate n 0

pub zeros : (n v : ℕ) → get_or (noughts n) v 0 ≡ 0
zeros zero v = refl
zeros (suc n) zero = refl
zeros (suc n) (suc v) = zeros n v

-- what the links and the ends held before does not matter
pub input_room : {input links ends : List ℕ} → Input input → EdgeRoom input links ends → InputRoom input (noughts limits.points) links ends
input_room {input} {links} {ends} i room =
    let a : length input ≤ limits.corners = i.few in
    let b : 2 * length input ≤ length links = room.links_long in
    let c : 2 * length input ≤ length ends = room.ends_long in
    record {
      triples = i.whole;
      few = omega arith;
      inside = i.inside;
      heads_long = length-replicate {A = ℕ} limits.points 0;
      none = λ u h. zeros limits.points u;
      links_room = omega arith;
      ends_room = omega arith;
    }

tray_begins : (input heads links ends : List ℕ) (table : List Float) → Tells input [] (length input) heads links ends
    → TrayReady input [] (length input) 1 (tray heads links ends (noughts limits.points) (noughts limits.longest) table)
tray_begins input heads links ends table t = record {
  tells = t;
  whole = refl;
  stamps_long = length-replicate {A = ℕ} limits.points 0;
  below = λ v. let z : get_or (noughts limits.points) v 0 ≡ 0 = zeros limits.points v in omega arith;
  rows_long = length-replicate {A = ℕ} limits.longest 0;
}

-- chains that are as long as they were have room as they had
pub edges_kept : {input links ends links' ends' : List ℕ} → length links' ≡ length links → length ends' ≡ length ends → EdgeRoom input links ends
    → EdgeRoom input links' ends'
edges_kept kl ke room = let a = room.links_long in let b = room.ends_long in record { links_long = omega arith; ends_long = omega arith }

-- of the scratch, turns and path are long enough for the corners, and when they are free for the edges
module _ {words corners turns path places : List ℕ} (s : Scratch words corners turns path places) where
  pub scratch_turns_long : length corners ≤ length turns
  scratch_turns_long = let a = s.turns_long in omega arith

  pub scratch_path_long : length corners ≤ length path
  scratch_path_long = let a = s.path_long in omega arith

  pub scratch_edges_room : EdgeRoom corners turns path
  scratch_edges_room = record { links_long = s.turns_long; ends_long = s.path_long }

-- the lent lists of the tray are as long as they were
pub record TrayKept (t₀ t : Tray) : Type 0 where
  pub links_kept : length t.links ≡ length t₀.links
  pub ends_kept : length t.ends ≡ length t₀.ends
  pub table_kept : length t.table ≡ length t₀.table

pub same_kept : (a b : passed.Tray) → Same a b → TrayKept (trayed a) (trayed b)
same_kept a b ((links, ends, links_long, ends_long), table, table_long) =
    record { links_kept = links_long; ends_kept = ends_long; table_kept = table_long }

pub kept_begins : {t : Tray} → TrayKept t t
kept_begins = record { links_kept = refl; ends_kept = refl; table_kept = refl }

pub kept_next : {t₀ t t' : Tray} → TrayKept t₀ t → TrayKept t t' → TrayKept t₀ t'
kept_next a b = record {
  links_kept = b.links_kept ∙ a.links_kept;
  ends_kept = b.ends_kept ∙ a.ends_kept;
  table_kept = b.table_kept ∙ a.table_kept;
}

-- the tray stands ready behind r ring vertices: the chains have room, and hold no more diagonals than vertices were read
pub record Standing (input laid : List ℕ) (r e : ℕ) (t : Tray) : Type 0 where
  pub edges_room : EdgeRoom input t.links t.ends
  pub ready : TrayReady input laid e (r + 1) t
  pub edges_few : e ≤ length input + r

pub standing_begins : {input heads links ends : List ℕ} {table : List Float} → EdgeRoom input links ends
    → Tells input [] (length input) heads links ends → Standing input [] 0 (length input) (tray heads links ends (noughts limits.points) (noughts limits.longest) table)
standing_begins {input} {heads} {links} {ends} {table} room t = record {
  edges_room = room;
  ready = tray_begins input heads links ends table t;
  edges_few = omega arith;
}

module _ {input laid : List ℕ} {r e : ℕ} {t : Tray} (s : Standing input laid r e t) (ring : List ℕ) where
  -- it has room for the next ring, behind the diagonals of r ring vertices, which are no more than these;
  pub standing_room : Input input → 3 ≤ length ring → r + length ring ≤ length input
      → (length ring ≤ limits.longest → TableFor (length ring) t.table) → TrayRoom ring e (r + 1) t
  standing_room i three few table =
      let a : length input ≤ limits.corners = i.few in
      let b : e ≤ length input + r = s.edges_few in
      let c : 2 * length input ≤ length t.links = s.edges_room.links_long in
      let d : 2 * length input ≤ length t.ends = s.edges_room.ends_long in
      record { links_room = omega arith; ends_room = omega arith; few_edges = omega arith; few_stamps = omega arith; table_room = table }

  -- and behind that ring it stands as the ring left it
  pub standing_next : {laid' : List ℕ} {r' f : ℕ} {t' : Tray} → r' ≡ r + length ring → TrayKept t t' → f ≤ e + (length ring - 2)
      → TrayReady input laid' f (r + 1 + length ring) t' → Standing input laid' r' f t'
  standing_next {laid'} {r'} {f} {t'} q kept few b =
      let x : e ≤ length input + r = s.edges_few in
      record {
        edges_room = edges_kept kept.links_kept kept.ends_kept s.edges_room;
        ready = subst (λ (i : ℕ). TrayReady input laid' f i t') (omega arith) b;
        edges_few = omega arith;
      }

-- a ring that is passed over leaves it standing
pub standing_passed : {input laid laid' : List ℕ} {r r' e : ℕ} {t : Tray} → laid ≡ laid' → r ≤ r' → Standing input laid r e t → Standing input laid' r' e t
standing_passed {input} {laid} {laid'} {r} {r'} {e} {t} q h s =
    let b : TrayReady input laid' e (r + 1) t = subst (λ (x : List ℕ). TrayReady input x e (r + 1) t) q s.ready in
    record {
      edges_room = s.edges_room;
      ready = record {
        tells = b.tells;
        whole = b.whole;
        stamps_long = b.stamps_long;
        below = λ v. let x = b.below v in omega arith;
        rows_long = b.rows_long;
      };
      edges_few = let x = s.edges_few in omega arith;
    }

-- a loop that lays nothing leaves the chains as they were
pub tray_kept : {input before : List ℕ} {e f base base' : ℕ} {t : Tray} {stamps rows : List ℕ} {table : List Float} → TrayReady input before e base t → f ≡ e → length stamps ≡ limits.points
    → ((v : ℕ) → get_or stamps v 0 < base') → length rows ≡ limits.longest
    → TrayReady input (before ++ []) f base' (tray t.heads t.links t.ends stamps rows table)
tray_kept {input} {before} {e} {f} {t = t} b x y z u =
    record {
      tells = subst (λ (n : ℕ). Tells input (before ++ []) n t.heads t.links t.ends) (sym x)
          (subst (λ (l : List ℕ). Tells input l e t.heads t.links t.ends) (sym (append-nil before)) b.tells);
      whole = ap (λ (l : List ℕ). length l % 3) (append-nil before) ∙ b.whole;
      stamps_long = y;
      below = z;
      rows_long = u;
    }
