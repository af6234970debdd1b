-- What taking a whole text in gives.
use Rattle.std.specs.Prelude.{◌≡◌, List, ℕ, length, Result, Ok, Err}
use Rattle.surface_rules.specs.Buffers.{over}
use Rattle.text_rules.specs.Workings.Parse.{Parsed, said, fault}

-- the line of its fault; or the counts, and the numbers of both parts over the starts of two buffers
unfoldable pub Scanned : {A B : Type 0} → (List A → List ℕ) → (List B → List ℕ) → Parsed A B → Result (ℕ × ℕ) ℕ → List ℕ → List ℕ → List ℕ → List ℕ → Type 0
Scanned f g (fault l) r firsts' seconds' firsts seconds = r ≡ Err l
Scanned f g (said xs ys) r firsts' seconds' firsts seconds =
    (r ≡ Ok (length xs, length ys)) × (firsts' ≡ over (f xs) firsts) × (seconds' ≡ over (g ys) seconds)
