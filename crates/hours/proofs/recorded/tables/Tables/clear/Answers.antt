use Rattle.std.proofs.Common.{◌≡◌, ℕ, List, Option, None, length, replicate, ap, ◌∙◌, rules, tests}
use Rattle.hours.specs.declared.counts.Counts.{Counts}
use Rattle.hours.specs.declared.recorded.tables.Tables.{Tables}
use Rattle.hours.proofs.recorded.tables.Tables.clear.Goals as goal

pub returns : goal.returns
returns c =
    let a = c.fill.ensures.after (λ y e. search (rules, tests)) in
    let b = c.fill-2.ensures.after (λ y e. search (rules, tests)) in
    let l : length c.args.self.now.counts ≡ 338 = search rules in
    let m : length c.args.self.now.starts ≡ 43264 = search rules in
    let whole : List (Option (Counts ℕ)) → List ℕ → Tables = λ counts starts. record { counts = counts; starts = starts; next = 2 } in
    ap (λ (counts : List (Option (Counts ℕ))). whole counts c.fill-2.new.self) (a ∙ ap (λ (n : ℕ). replicate n None) l)
    ∙ ap (λ (starts : List ℕ). whole (replicate 338 None) starts) (b ∙ ap (λ (n : ℕ). replicate n 0) m)
