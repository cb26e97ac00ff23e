-- The law over all runs.
use Rattle.std.proofs.Common.{◌≡◌, ℕ, true, List, [], ◌∷◌, fold, sym, subst, arith}
use Rattle.std.specs.List.{AllByRecursion}
use Rattle.std.proofs.lemmas.Int.{ints}
use Rattle.std.proofs.lemmas.List.Sums.{fold_push}
use Rattle.std.proofs.ByRecursion.{All-weaker}
use Rattle.gate_model.specs.Measures.{Prices, lawful_megawatts}
use Rattle.gate_model.specs.State.{Body, bid, offer, conversion, Item, State, new}
use Rattle.gate_model.specs.Requirement.{Within}
use Rattle.gate_model.specs.Calls.{Call}
use Rattle.gate_model.specs.Run.{next, reached}
use Rattle.gate_model.specs.Clearing.{Clears, cleared_out, one_award}
use Rattle.gate_model.specs.Law.{BodyPriced, PartPriced, PricesAgree, requirement_of, SumsAgree, Sane, Roomy, Numbered, WithinLimits, Law}
use Rattle.gate_model.proofs.Sound.{BodyBacked, Backed, PartBacked, Sound}
use Rattle.gate_model.proofs.Award.{award_within, award_sound}
use Rattle.gate_model.proofs.Steps.{step_sound, step_within, new_sound}
use Rattle.gate_model.specs.Grounds.{customers}
use Rattle.gate_model.proofs.Costs.{Costed, original_above, step_costed, new_costed}
use Rattle.gate_model.proofs.Caps.{Capped, step_capped, new_capped}
use Rattle.gate_model.proofs.Limits.{step_sane, new_sane, step_roomy, new_roomy, step_numbered, new_numbered, step_sized}
use Rattle.gate_model.proofs.Conservation.{calls_move}
use Rattle.gate_model.specs.declared.right.Right.{Right}

-- what every step keeps holds after any steps
folded_keeps : {S X : Type 0} (P : S → Type 0) (f : S → X → S) → ((s : S) (x : X) → P s → P (f s x)) → (xs : List X) (s : S) → P s → P (fold f s xs)
folded_keeps P f k [] s h = h
folded_keeps P f k (x ∷ xs) s h = folded_keeps P f k xs (f s x) (k s x h)

clears_within : (c : ℕ) (s n : State) → Clears c s n → Sound s → Within s c → Within n c
clears_within c s n cleared_out g h = h
clears_within c s n (one_award {n = m} a r) g h =
    let w = subst (λ t. Within t c) (sym a.after) (award_within s a.item c a.w a.price a.standing a.lawful g h) in
    let t = subst Sound (sym a.after) (award_sound s a.item a.w a.price a.standing a.lawful g) in
    clears_within c m n r t w

body_priced : (p : Prices) (o : ℕ) (rights : List Right) (i : Item) (b : Body) → BodyBacked p o rights i b → BodyPriced p b
body_priced p o rights i (bid key points price) h = h.priced
body_priced p o rights i (offer k points) h = tt
body_priced p o rights i (conversion parts) h = All-weaker (PartBacked p o) (PartPriced p) (λ l b. b.priced) parts h.each

agree : (s : State) → Sound s → PricesAgree s
agree s h = record {
  rights = h.priced;
  lines = All-weaker (Backed s.prices s.month s.rights) (λ i. BodyPriced s.prices i.body) (λ i b. body_priced s.prices s.month s.rights i i.body b) s.items h.backed;
}

body_required : (p : Prices) (o : ℕ) (rights : List Right) (i : Item) (b : Body) → BodyBacked p o rights i b → i.requirement ≡ requirement_of rights b
body_required p o rights i (bid key points price) h = h.requirement_is
body_required p o rights i (offer k points) h = h.requirement_is
body_required p o rights i (conversion parts) h = h.requirement_is

sums : (s : State) → Sound s → SumsAgree s
sums s h = record {
  items = All-weaker (Backed s.prices s.month s.rights) (λ i. i.requirement ≡ requirement_of s.rights i.body) (λ i b. body_required s.prices s.month s.rights i i.body b) s.items h.backed;
  accounts = h.sums;
}

-- all that every call keeps
record Kept (s : State) : Type 0 where
  sound : Sound s
  costed : Costed s
  capped : Capped s
  sane : AllByRecursion (λ c. Sane (s.accounts c)) customers
  roomy : Roomy s
  sized : AllByRecursion (λ r. lawful_megawatts r.megawatts ≡ true) s.rights
  numbered : Numbered s

reached_kept : (p : Prices) (calls : List Call) → Kept (reached p calls)
reached_kept p calls = folded_keeps (λ r. Kept r.1) next
    (λ r call h. record {
      sound = step_sound r.1 call h.sound;
      costed = step_costed r.1 call h.sound h.costed;
      capped = step_capped r.1 call h.sound h.costed h.capped;
      sane = step_sane r.1 call h.sane;
      roomy = step_roomy r.1 call h.roomy;
      sized = step_sized r.1 call h.sound h.sized;
      numbered = step_numbered r.1 call h.numbered;
    })
    calls ([], new p)
    record { sound = new_sound p; costed = new_costed p; capped = new_capped p; sane = new_sane p; roomy = new_roomy p; sized = tt; numbered = new_numbered p }

limits : (s : State) → Kept s → WithinLimits s
limits s h = record {
  months = h.costed.year;
  costs = λ c m l. let a = original_above c m s.rights h.costed.lawful in let b = h.costed.original c m l in omega (arith, ints);
  cost_limit = h.capped;
  accounts = h.sane;
  room = h.roomy;
  megawatts = h.sized;
  numbers = h.numbered;
}

pub law : (p : Prices) (calls : List Call) → Law p calls
law p calls =
    let k = reached_kept p calls in
    let g = k.sound in
    record {
      prices_agree = agree (reached p calls) g;
      sums_agree = sums (reached p calls) g;
      within_limits = limits (reached p calls) k;
      stays_within_at_every_clearing = λ c h n r. clears_within c (reached p calls) n r g h;
      stays_within_at_the_next_call = λ c h call r. subst (λ t. Within t.1 c) (sym (fold_push next ([], new p) calls call)) (step_within (reached p calls) call c r g h);
      conserved = λ k u. let m = calls_move k calls [] (new p) (new_sound p) u in omega (arith, ints);
    }
