use Rattle.std.proofs.Common.{◌≡◌, drop}
use Rattle.text.specs.Digits.{size_of, ranged, unsigned64}
use Rattle.text.proofs.Sizes.{scan}
use Rattle.text.proofs.digits.size_of.Given as goal

-- the bytes that are left, behind the size so far, give what the word gives
abbrev pub invariant-loop-byte : goal.invariant-loop-byte
invariant-loop-byte l = scan l.size (drop l.byte-index l.word) ≡ ranged unsigned64 (size_of l.word)
