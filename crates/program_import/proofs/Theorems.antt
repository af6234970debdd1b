-- What is promised of the printed bytes leaves nothing open, for a file and for an input that is seen in a room.
use mathlib.Core.Path.{◌≡◌, refl, sym, ap, ◌∙◌}
use mathlib.Core.Bool.{Bool, true, false}
use mathlib.Core.Logic.{inl, ⊎_elim}
use mathlib.Core.List.{List, ◌++◌}
use Prim.Native.Nat.{ℕ, ◌-◌, ◌<◌, ◌≤◌}
use native.Mathlib.Omega.{arith}
use native.Mathlib.Nat.{eq-or-lt_of_le}
use lib.ListN.{length, take, replicate, length-append, length-replicate, length-take}
use lib.Seq.{take_all, take-append_seam}
use Rattle.base_answers.specs.Numbers.{refusing}
use Rattle.surface_rules.specs.Buffers.{over}
use Rattle.text_rules.proofs.Laws.Cut.{read_itself}
use Rattle.stl_rules.specs.Reading.{file_refusal}
use Rattle.program_import.specs.Importing.{Imports, Seen, ImportsIn}
use Rattle.program_import.proofs.Laws.Read.{taken}

-- two outputs that are allowed are equal
pub imports_once : (file out out' : List ℕ) → Imports file out → Imports file out' → out ≡ out'
imports_once file out out' p q = go (refusing (file_refusal file)) refl
  where
    go : (b : Bool) → refusing (file_refusal file) ≡ b → out ≡ out'
    go true e = p.of_refusal e ∙ sym (q.of_refusal e)
    go false e = let d = (taken file e).done in (p.of_sheet d).is ∙ sym (q.of_sheet d).is

-- an input that does not fill the room stands there whole
pub seen_whole : {room input : List ℕ} {n long : ℕ} → n < length room → Seen room n long input → take n room ≡ input
seen_whole {room} {input} {n} h s = s.held.read ∙ take_all (length room) input (omega (arith, h, ap length s.held.read, length-take n room, length-take (length room) input))

-- some input is seen in every room
some_seen : (room : List ℕ) (n long : ℕ) → n ≤ length room → n ≤ long → (input : List ℕ) × Seen room n long input
some_seen room n long h l =
    ⊎_elim
    (λ (e : n ≡ length room).
    let zeros : List ℕ = replicate (long - length room) 0 in (
      room ++ zeros,
      record {
        held = record { read = take_all n room (omega (arith, e)) ∙ sym (take-append_seam room zeros) };
        counted = λ _. inl (omega (arith, l, e, length-append room zeros, length-replicate {A = ℕ} (long - length room) 0));
      },
    ))
    (λ (k : n < length room). (take n room, record { held = read_itself h; counted = λ m. absurd (omega (arith, k, m, length-take n room)) }))
    (eq-or-lt_of_le h)

-- so what is answered and left in the room is determined
pub imports_in_once : {room room' room'' : List ℕ} {n long r s : ℕ} → n ≤ length room → n ≤ long → ImportsIn room n long r room' → ImportsIn room n long s room'' → (r ≡ s) × (room' ≡ room'')
imports_in_once {room} {room'} {room''} {n} {long} h l p q =
    let i = some_seen room n long h l in
    let e = imports_once i.0 p.out q.out (p.due i.0 i.1) (q.due i.0 i.1) in
    (p.many ∙ ap length e ∙ sym q.many, p.lies ∙ ap (λ (o : List ℕ). over o room) e ∙ sym q.lies)
