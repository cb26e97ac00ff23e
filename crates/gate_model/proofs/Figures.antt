-- The worked figures, of the definitions.
use Rattle.std.proofs.Common.{◌≡◌, ℕ, List, [], ◌∷◌, ℤ, pos, negsuc, Ok, refl}
use Rattle.gate_model.specs.Measures.{Prices}
use Rattle.gate_model.specs.Curves.{bid_requirement, offer_requirement, conversion_requirement}
use Rattle.gate_model.specs.Requirement.{total}
use Rattle.gate_model.specs.Effects.{bid_line}
use Rattle.gate_model.specs.Calls.{Call, posting, opening, submission, closing, award}
use Rattle.gate_model.specs.Grounds.{met_at}
use Rattle.gate_model.specs.Run.{next_numbers, run, reached}
use Rattle.books.specs.declared.key.Key.{Key}
use Rattle.gate_model.specs.declared.point.Point.{Point}
use Rattle.gate_model.specs.declared.conversion.Part.{Part}
use Rattle.gate_model.specs.declared.phase.Window.{Window}
use Rattle.gate_model.specs.declared.refusal.Ground.TheVariants.{AboveSecurity}
use Rattle.gate_model.specs.declared.outcome.Outcome.TheVariants.{SecurityNow, Opened, Standing, ShutOf, RightsMade, Refused}

abbrev point : ℕ → ℤ → Point
point q c = record { megawatts = q; price = c }

abbrev key : Key
key = record { path = record { source = 0; sink = 1 }; slot = record { period = record { first = 1; months = 1 }; class = 0 } }

abbrev part : ℕ → ℤ → Part
part q c = record { key = key; megawatts = q; price = c }

bid_figure : bid_requirement (pos 400) (point 100 (pos 500) ∷ point 200 (pos 470) ∷ []) ≡ pos 168000
bid_figure = refl

low_bid_figure : bid_requirement (negsuc 499) (point 100 (negsuc 299) ∷ []) ≡ pos 600000
low_bid_figure = refl

offer_figure : offer_requirement (pos 400) (pos 250) (point 50 (pos 100) ∷ []) ≡ pos 330000
offer_figure = refl

low_offer_figure : offer_requirement (negsuc 399) (pos 250) (point 50 (pos 300) ∷ []) ≡ pos 0
low_offer_figure = refl

conversion_figure : conversion_requirement (part 100 (pos 200) ∷ part 100 (negsuc 299) ∷ []) ≡ pos 144000
conversion_figure = refl

free_conversion_figure : conversion_requirement (part 100 (pos 300) ∷ part 100 (negsuc 199) ∷ []) ≡ pos 0
free_conversion_figure = refl

abbrev flat : Prices
flat _ = Ok (negsuc 499)

abbrev first_window : Window
first_window = record { auction = 1; period = record { first = 1; months = 1 } }

abbrev day : ℤ → List Call
day cents = posting 1 cents ∷ opening (record { first = 1; months = 1 }) ∷ submission first_window 1 (bid_line (record { source = 0; sink = 1 }) 0 (point 100 (pos 300) ∷ []) ∷ []) ∷ []

abbrev cleared_day : List Call
cleared_day = posting 1 (pos 8000) ∷ opening (record { first = 1; months = 1 }) ∷ submission first_window 1 (bid_line (record { source = 0; sink = 1 }) 0 (point 100 (pos 300) ∷ []) ∷ []) ∷ closing first_window ∷ award first_window 1 50 (pos 200) ∷ []

approved_day : (run flat (day (pos 8000))).0 ≡ SecurityNow 8000 ∷ Opened 1 ∷ Standing (next_numbers 0 1) ∷ []
approved_day = refl

total_stood : total (reached flat (day (pos 8000))) 1 ≡ pos 960000
total_stood = refl

refused_day : (run flat (day (pos 7999))).0 ≡ SecurityNow 7999 ∷ Opened 1 ∷ Refused (record { ground = AboveSecurity; met = met_at 1 }) ∷ []
refused_day = refl

cleared_figure : (run flat cleared_day).0 ≡ SecurityNow 8000 ∷ Opened 1 ∷ Standing (next_numbers 0 1) ∷ ShutOf 1 ∷ RightsMade (next_numbers 0 1) ∷ []
cleared_figure = refl

total_cleared : total (reached flat cleared_day) 1 ≡ pos 420000
total_cleared = refl
