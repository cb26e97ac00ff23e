-- What a call writes. Assumes nothing.
use Rattle.std.specs.Prelude.{◌≡◌, List, ℕ, ◌++◌, string_bytes}
use Rattle.hours.specs.RecordedFormat.{Records, records_of}
use Rattle.tcr_hours.specs.declared.listing.Written.{Written}

-- behind what was written of recorded hours stands what is shown of them, and they stay the same
abbrev pub Adds : Written → Written → (Records → List ℕ) → Type 0
Adds a b shown = (b.recorded.now ≡ a.recorded.now) × (string_bytes b.out ≡ string_bytes a.out ++ shown (records_of a.recorded.now))
