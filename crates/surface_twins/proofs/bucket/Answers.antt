-- `bucket` computes what is defined, and the product of two 16-bit numbers, each with a little added, fits.
use borrow.Author.Rules.{rules}
use Rattle.surface_twins.specs.Workings.Chains.{bucket_of}
use Rattle.surface_twins.proofs.bucket.Goals as goal

pub returns : goal.returns
unfolding bucket_of
returns c = search rules
