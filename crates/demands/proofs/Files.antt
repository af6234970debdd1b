-- Demand 1 of files of facets, read and imported.
use mathlib.Core.Path.{◌≡◌, refl, sym, ap, ap₂, ◌∙◌}
use mathlib.Core.List.{List, [], ◌∷◌, ◌++◌}
use Prim.Native.Nat.{ℕ, ◌+◌, ◌*◌}
use lib.Dec.{leb}
use lib.ListN.{length}
use Rattle.base_answers.specs.Numbers.{refusing}
use Rattle.base_answers.specs.declared.Answer.{Answer}
use Rattle.base_answers.specs.Answers.{Words, Corners, Buffer, Misfit}
use Rattle.base_answers.specs.declared.Answer.TheVariants.{Done}
use Rattle.base_limits.specs.Limits as limits
use Rattle.surface_rules.specs.Buffers.{over}
use Rattle.surface_rules.specs.Refusals.{then_check, buffer_refusal}
use Rattle.surface_rules.specs.Smallest.{least}
use Rattle.surface_rules.specs.Threes.{threes, flat}
use Rattle.surface_rules.proofs.Laws.Smallest.{never_least}
use Rattle.text_rules.specs.Text.{TextOf}
use Rattle.text_sheet.specs.Sheet.{sheet, sheet_of}
use Rattle.text_read.specs.Outcome.{not_read}
use Rattle.stl_facets.specs.Facets.{facets}
use Rattle.stl_rules.specs.File.{fits}
use Rattle.stl_rules.specs.Reading.{points_in, corners_in, size_refusal, file_refusal, read_refusal, reads_file}
use Rattle.program_lines.specs.Lines.{answer_line}
use Rattle.program_import.specs.Importing.{Imports}
use Rattle.demands.specs.Answers.{Clear, Due, short_buffer, wrong_size, many_facets, many_points, size_checks, file_checks, Answered}
use Rattle.demands.proofs.Checks.{answer_of, Refuses, due_is, due_refuses, answered, last_of, once_is, append_is, append_refuses, chosen}

module _ (long count : ℕ) where
  size_is : size_refusal long count ≡ answer_of (size_checks long count)
  unfolding size_refusal
  size_is = ap₂ then_check (once_is (fits long count) Misfit) (once_is (leb count limits.triangles) Corners ∙ last_of (λ i. Corners) (λ i. refl) (least (many_facets count).finds 1))

  pub sizing : Answered (size_checks long count) (λ a. a) (λ a. a) (size_refusal long count)
  sizing = answered (size_checks long count) (λ i. refl, (λ i. refl, tt)) (λ a. a) (λ a. a) (size_refusal long count) (λ a. refl) (λ h. size_is) (λ h. ap refusing size_is ∙ h)

module _ (file : List ℕ) where
  file_is : file_refusal file ≡ answer_of (file_checks file)
  unfolding file_refusal
  file_is =
      ap₂ then_check (size_is (length file) (facets file))
      (once_is (leb (length (points_in file)) limits.points) Words ∙ last_of (λ i. Words) (λ i. refl) (least (many_points file).finds 1))
      ∙ sym (append_is (size_checks (length file) (facets file)) (many_points file ∷ []))

  file_refuses : Refuses (file_checks file)
  file_refuses = (λ i. refl, (λ i. refl, (λ i. refl, tt)))

  module _ (words corners : List ℕ) where
    abbrev lent : List ℕ
    lent = length words ∷ length corners ∷ []

    abbrev needed : List ℕ
    needed = 3 * length (points_in file) ∷ 3 * facets file ∷ []

    read_is : read_refusal file words corners ≡ answer_of (file_checks file ++ (short_buffer lent needed ∷ []))
    unfolding read_refusal buffer_refusal
    read_is = ap₂ then_check file_is (last_of (λ i. Buffer (i + 1)) (λ i. refl) (least (short_buffer lent needed).finds 2)) ∙ sym (append_is (file_checks file) (short_buffer lent needed ∷ []))

    pub reading_file : Answered (file_checks file ++ (short_buffer lent needed ∷ [])) (λ a. not_read a words corners) (λ p. p.answer) (reads_file file words corners)
    unfolding reads_file
    reading_file =
        chosen (file_checks file ++ (short_buffer lent needed ∷ [])) (append_refuses (file_checks file) (short_buffer lent needed ∷ []) file_refuses (λ i. refl, tt)) (read_refusal file words corners) read_is
        (λ a. not_read a words corners) (λ p. p.answer)
        (record { answer = Done; pitch = 1; word_count = 3 * length (points_in file); corner_count = 3 * facets file; words = over (flat (points_in file)) words; corners = over (corners_in file) corners })
        (reads_file file words corners) (λ a. refl) refl refl

  module _ (out : List ℕ) (p : Imports file out) where
    pub importing_refused : (a : Answer) → Due (file_checks file) a → out ≡ answer_line a
    importing_refused a d =
        let e : file_refusal file ≡ a = file_is ∙ due_is (file_checks file) file_refuses a d in
        p.of_refusal (ap refusing e ∙ due_refuses (file_checks file) file_refuses a d) ∙ ap answer_line e

    pub importing : Clear (wrong_size (length file) (facets file)) → Clear (many_facets (facets file)) → Clear (many_points file) → TextOf sheet out (sheet_of 1 (points_in file) (threes (corners_in file)))
    importing s f q =
        let a = never_least (wrong_size (length file) (facets file)).finds 1 s in
        let b = never_least (many_facets (facets file)).finds 1 f in
        let c = never_least (many_points file).finds 1 q in
        p.of_sheet (file_is ∙ rw (a, b, c) refl)
