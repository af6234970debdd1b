-- `bucket` computes what is defined; three products of 32-bit numbers below 2^61 add up to less than 2^64.
use borrow.Author.Rules.{rules}
use Rattle.stl_gather.specs.Workings.Racks.{mixed, bucket_of}
use Rattle.stl_gather.proofs.bucket.Goals as goal

pub returns : goal.returns
unfolding mixed bucket_of
returns c = search rules
