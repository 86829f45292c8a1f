-- Which text an outcome's value is, by what the line asked for, and a line put together. Assumes nothing.
use Prim.Native.Nat.{ℕ}
use mathlib.Core.List.{List, [], ◌∷◌, ◌++◌}
use mathlib.Core.Logic.{◌⊎◌, inl, inr}
use mathlib.Core.Path.{◌≡◌, refl, sym, ap}
use Rattle.lists.specs.Choice.{both, choose}
use Rattle.model.specs.declared.Answer.{Answer}
use Rattle.model.specs.declared.Answer.TheVariants.{Done, Unsound, BadCaller, Limit, NameTaken, NoSpace, NotOwner, NoSharing, AllowanceUsed, SlotsUsed, NoRun, NoIdentification, NotPermitted, ListFull, AletSpecification, AlenTranslation, AddressingCapability, Addressing, Protection, SpecialOperation, PrimarySpace, LineNotRead, KeyProtection, RoomTooSmall, NotWritten}
use Rattle.model.specs.declared.Call.{Call}
use Rattle.model.specs.declared.Kind.{Kind}
use Rattle.model.specs.declared.Kind.TheVariants.{Pages, Allowance, ListSize, Flag, Name, Register, Length, OtherGuest, Frames, Key}
use Rattle.model.specs.declared.Operation.{Operation}
use Rattle.model.specs.declared.Operation.TheVariants as operation
use Rattle.model.specs.declared.Request.{Request}
use Rattle.model.specs.declared.Request.TheVariants as request
use Rattle.model.specs.declared.Right.{Right}
use Rattle.model.specs.declared.Settings.{Settings}
use Rattle.model.specs.Answers.{limit_number, number, value, names_argument}
use Rattle.model.specs.Session.{LineOutcome, decimal, hex_text, dash, shown, done_text, request_text, refusal_text, value_text, line_text}
use Rattle.digits.specs.declared.Text.{Text}
use Rattle.digits.specs.Wrote.{Adds}
use Rattle.digits.proofs.Writing.{adds_more}

-- the calls that give a number, as a match's arm tells them
abbrev pub Numbered : Operation → Type 0
Numbered o =
    ((s : Settings) × (o ≡ operation.Enrol s)) ⊎ ((n : ℕ) × (p : ℕ) × (o ≡ operation.Create n p)) ⊎ ((g : ℕ) × (n : ℕ) × (o ≡ operation.Query g n)) ⊎ ((i : ℕ) × (r : Right) × (o ≡ operation.Add i r))

number_is : (o : Operation) (a : Answer) (m : List ℕ) → Numbered o → decimal (value a) ≡ done_text o a m
unfolding done_text
number_is o a m (inl (s, e)) = rw e refl
number_is o a m (inr (inl (n, p, e))) = rw e refl
number_is o a m (inr (inr (inl (g, n, e)))) = rw e refl
number_is o a m (inr (inr (inr (i, r, e)))) = rw e refl

-- a call that is none of these, as a match's last arm tells it
abbrev pub Unshown : Operation → Type 0
Unshown o = ((s : Settings) → o ≡ operation.Enrol s → ⊥) × ((n p : ℕ) → o ≡ operation.Create n p → ⊥) × ((g n : ℕ) → o ≡ operation.Query g n → ⊥) × ((i : ℕ) (r : Right) → o ≡ operation.Add i r → ⊥) × ((r d : ℕ) → o ≡ operation.Fetch r d → ⊥)

none_is : (o : Operation) (a : Answer) (m : List ℕ) → Unshown o → dash ≡ done_text o a m
unfolding done_text
none_is (operation.Enrol s) a m h = absurd (h.0 s refl)
none_is (operation.Create n p) a m h = absurd (h.1 n p refl)
none_is (operation.Destroy i) a m h = refl
none_is (operation.Permit i g r) a m h = refl
none_is (operation.Isolate i) a m h = refl
none_is (operation.Query g n) a m h = absurd (h.2 g n refl)
none_is (operation.Add i r) a m h = absurd (h.3 i r refl)
none_is (operation.Remove t) a m h = refl
none_is (operation.Load r v) a m h = refl
none_is (operation.Mode v) a m h = refl
none_is (operation.Fetch r d) a m h = absurd (h.4 r d refl)
none_is (operation.Store r d) a m h = refl
none_is operation.Reset a m h = refl
none_is (operation.Key k) a m h = refl
none_is (operation.Block i d k p) a m h = refl

module _ {t u : Text} (x : Operation) (v : ℕ) (m : List ℕ) where
  pub number_done : {n : ℕ} → Numbered x → n ≡ v → Adds t (decimal n) u → Adds t (done_text x (Done v) m) u
  unfolding value
  number_done h e w = rw (← number_is x (Done v) m h, ← e) w

  pub bytes_done : {r d : ℕ} → x ≡ operation.Fetch r d → Adds t (hex_text m) u → Adds t (done_text x (Done v) m) u
  unfolding done_text
  bytes_done e w = rw e w

  pub none_done : Unshown x → Adds t dash u → Adds t (done_text x (Done v) m) u
  none_done h w = rw (← none_is x (Done v) m h) w

-- a call, and what is no call
abbrev outcome : Request → Answer → List ℕ → LineOutcome
outcome r a m = record { request = r; answer = a; moved = m }

none_asked : (r : Request) (a : Answer) (m : List ℕ) → ((k : Call) (n : ℕ) → r ≡ request.Call k n → ⊥) → dash ≡ request_text r a m
unfolding request_text
none_asked (request.Frames f) a m h = refl
none_asked (request.Call k n) a m h = absurd (h k n refl)
none_asked request.NotRead a m h = refl

module _ {t u : Text} (r : Request) (v : ℕ) (m : List ℕ) where
  pub call_asked : {k : Call} {l : ℕ} → r ≡ request.Call k l → Adds t (done_text k.operation (Done v) m) u → Adds t (request_text r (Done v) m) u
  unfolding request_text
  call_asked c w = rw c w

  pub no_call_asked : ((k : Call) (l : ℕ) → r ≡ request.Call k l → ⊥) → Adds t dash u → Adds t (request_text r (Done v) m) u
  no_call_asked h w = rw (← none_asked r (Done v) m h) w

-- an answer that is neither, as a match's last arm tells it
abbrev pub Other : Answer → Type 0
Other a = ((v : ℕ) → a ≡ Done v → ⊥) × ((k : Kind) (p : ℕ) → a ≡ Limit k p → ⊥)

other_text : (r : Request) (a : Answer) (m : List ℕ) → Other a → dash ≡ value_text (outcome r a m)
unfolding value_text refusal_text names_argument number both choose
other_text r (Done v) m h = absurd (h.0 v refl)
other_text r (Limit k p) m h = absurd (h.1 k p refl)
other_text r Unsound m h = refl
other_text r BadCaller m h = refl
other_text r NameTaken m h = refl
other_text r NoSpace m h = refl
other_text r NotOwner m h = refl
other_text r NoSharing m h = refl
other_text r AllowanceUsed m h = refl
other_text r SlotsUsed m h = refl
other_text r NoRun m h = refl
other_text r NoIdentification m h = refl
other_text r NotPermitted m h = refl
other_text r ListFull m h = refl
other_text r AletSpecification m h = refl
other_text r AlenTranslation m h = refl
other_text r AddressingCapability m h = refl
other_text r Addressing m h = refl
other_text r Protection m h = refl
other_text r SpecialOperation m h = refl
other_text r PrimarySpace m h = refl
other_text r LineNotRead m h = refl
other_text r KeyProtection m h = refl
other_text r RoomTooSmall m h = refl
other_text r NotWritten m h = refl

limit_text : (r : Request) (k : Kind) (p : ℕ) (m : List ℕ) → decimal p ≡ value_text (outcome r (Limit k p) m)
unfolding value_text refusal_text names_argument number value limit_number both choose
limit_text r Pages p m = refl
limit_text r Allowance p m = refl
limit_text r ListSize p m = refl
limit_text r Flag p m = refl
limit_text r Name p m = refl
limit_text r Register p m = refl
limit_text r Length p m = refl
limit_text r OtherGuest p m = refl
limit_text r Frames p m = refl
limit_text r Key p m = refl

module _ {t u : Text} (r : Request) (a : Answer) (m : List ℕ) where
  pub done_value : {v : ℕ} → a ≡ Done v → Adds t (request_text r (Done v) m) u → Adds t (value_text (outcome r a m)) u
  unfolding value_text number choose
  done_value e w = rw e w

  pub argument_value : {k : Kind} {p n : ℕ} → a ≡ Limit k p → n ≡ p → Adds t (decimal n) u → Adds t (value_text (outcome r a m)) u
  argument_value {k} {p} e f w = rw e (rw (← limit_text r k p m, ← f) w)

  pub refused_value : Other a → Adds t dash u → Adds t (value_text (outcome r a m)) u
  refused_value h w = rw (← other_text r a m h) w

-- the parts of a line
pub line_done : {t u₁ u₂ u₃ u₄ u₅ u₆ : Text} {j k : ℕ} (n : ℕ) (r : Request) (a : Answer) (m : List ℕ) → j ≡ number a → k ≡ j
    → Adds t (decimal n) u₁ → Adds u₁ (32 ∷ []) u₂ → Adds u₂ (decimal k) u₃ → Adds u₃ (32 ∷ []) u₄
    → Adds u₄ (value_text (outcome r a m)) u₅ → Adds u₅ (10 ∷ []) u₆ → Adds t (line_text n (outcome r a m)) u₆
unfolding line_text
line_done n r a m e f w₁ w₂ w₃ w₄ w₅ w₆ = rw (← e, ← f) (adds_more w₁ (adds_more w₂ (adds_more w₃ (adds_more w₄ (adds_more w₅ w₆)))))
