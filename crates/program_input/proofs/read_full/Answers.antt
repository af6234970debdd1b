-- A read lays what it gives behind what was read so far.
use Rattle.std.proofs.Common.{rules, ◌≤◌, length, take, ◌≡◌, ℕ, ◌+◌, List, ◌++◌, ◌-◌, sym, ap, ◌∙◌, subst, length-take-le}
use Rattle.std.proofs.KnownBytes.{Consumes-trans}
use Rattle.std.proofs.Math.Seq.{take-append-add}
use Rattle.std.proofs.lemmas.List.{take-append-le}
use Rattle.std.specs.Io.KnownBytes.{Consumes}
use borrow.Rule.Slice.PartMut.{put_mid, post_of}
use Rattle.program_input.proofs.read_full.Goals as goal

laid_behind : (at k n : ℕ) (room given : List ℕ) → at ≤ length room → n ≤ length given → take (at + n) (put_mid at k room given) ≡ take at room ++ take n given
laid_behind at k n room given p q =
    let behind = given ++ post_of at k room in
    ap (λ (m : ℕ). take (m + n) (put_mid at k room given)) (sym (length-take-le at room p)) ∙
    take-append-add (take at room) behind n ∙ ap (λ l. take at room ++ l) (take-append-le n given (post_of at k room) q)

pub loop-done-preserved : goal.loop-done-preserved
loop-done-preserved g c =
    let laid = laid_behind c.loop-done.done (length c.loop-done.room - c.loop-done.done) c.in-Ok.more c.loop-done.room c.read.new.buf c.loop-done.invariant.1 c.in-Ok.ensures.bound.0 in
    (search rules, search rules, subst (Consumes _ _) (sym laid) (Consumes-trans _ _ _ _ _ c.loop-done.invariant.2 c.in-Ok.ensures.bytes.0))
