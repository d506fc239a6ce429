-- A recording of good form has its header.
use Rattle.std.proofs.Common.{arith}
use Rattle.recording.proofs.GoodFormLaws.{good_form}
use Rattle.recording.proofs.good_form.Recording.total.Goals as goal

pub read-requires : goal.read-requires
read-requires c = let good = (good_form _ _).0 c.args.self.good in omega (arith, good.whole)
