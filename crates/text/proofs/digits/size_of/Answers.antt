use Rattle.std.proofs.Common.{◌<◌, length, arith}
use Rattle.text.proofs.Sizes.{scan_word}
use Rattle.text.proofs.digits.size_of.Goals as goal

pub loop-byte-init : goal.loop-byte-init
loop-byte-init c =
    let s = c.if-is_empty.ensures in
    let l : 0 < length c.args.word.now = grind arith in
    scan_word c.args.word.now l
