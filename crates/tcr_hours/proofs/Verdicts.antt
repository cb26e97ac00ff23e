-- What is written of numbers that the check refuses. Assumes nothing.
use Rattle.std.proofs.Common.{◌≡◌, ℕ, ◌++◌, Ok, Err, codes, Result, ap, arith}
use Rattle.hours.specs.declared.unlawful.Unlawful.{Unlawful}
use Rattle.hours.specs.RecordedFormat.{Records, checked}
use Rattle.tcr_hours.specs.Lines.{refused_line}
use Rattle.tcr_hours.specs.Report.{verdict_of}

pub verdict_refused : (read : Result Records ℕ) (unlawful : Unlawful) → Err unlawful ≡ checked read → verdict_of read ≡ refused_line unlawful.line ++ codes "\n"
verdict_refused (Ok r) unlawful e = let no : ◌≡◌ {A = ℕ} 0 1 = cc in absurd (omega arith)
verdict_refused (Err line) unlawful e = let same : line ≡ unlawful.line = cc in ap (λ (k : ℕ). refused_line k ++ codes "\n") same
