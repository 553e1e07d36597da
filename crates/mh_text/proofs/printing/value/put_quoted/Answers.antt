use Rattle.std.proofs.Common.{get_or, refl}
use Rattle.mh_text.specs.Printed.{quoted}
use Rattle.mh_text.proofs.PrintingLemmas.{one_printed}
use Rattle.mh_text.proofs.printing.value.put_quoted.Goals as goal

pub loop-byte-preserved : goal.loop-byte-preserved
loop-byte-preserved c =
    one_printed quoted c.args.bytes.now c.loop-byte.byte-index (get_or c.args.bytes.now c.loop-byte.byte-index 0) 0 c.loop-byte.out.items c.put_octet.new.out.items _
    c.loop-byte-test.true refl c.in_ok-put_octet.ensures c.loop-byte.invariant
