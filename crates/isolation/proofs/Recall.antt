-- What the record alone tells of tokens and registers is what the tables say, after every list from a fresh state.
-- Assumes nothing.
use Prim.Native.Nat.{ℕ, ◌+◌, ◌≤◌}
use mathlib.Core.Bool.{true, false, not}
use mathlib.Core.List.{List, []}
use mathlib.Core.Logic.{◌⊎◌, inl, inr}
use mathlib.Core.Path.{◌≡◌, refl, sym, ap, ◌∙◌}
use Rattle.std.specs.Prelude.{Err}
use native.Mathlib.Decide.{ℕ_discrete, dec_le}
use native.Mathlib.Omega.{arith}
use lib.Dec.{eqb}
use borrow.Author.Tests.{eqb-false}
use Rattle.lists.specs.Choice.{choose}
use Rattle.lists.proofs.Choice.{true_false, true_or_false}
use Rattle.model.specs.declared.Answer.TheVariants.{AlenTranslation}
use Rattle.model.specs.declared.Entry.{Entry}
use Rattle.model.specs.declared.Standing.{Standing}
use Rattle.model.specs.declared.Standing.TheVariants.{Unused, Valid, Revoked}
use Rattle.model.specs.declared.State.{State}
use Rattle.model.specs.Answers.{number}
use Rattle.model.specs.Fresh.{empty_tables}
use Rattle.model.specs.Names.{base_name}
use Rattle.model.specs.Searches.{enrolled, primary_slot, is_unused}
use Rattle.model.specs.Sound.{IsEntry, Sound}
use Rattle.model.specs.Step.{Machine, after_run}
use Rattle.model.specs.Tables.{space_at, guest_at, entry_at}
use Rattle.model.specs.Tokens.{entry_number, upper_half, malformed, assigned, token_used}
use Rattle.model.specs.Translation.{through_standing, translate}
use Rattle.model.proofs.Searches.{enrolled_guest, primary_lt, named_found, unused_is}
use Rattle.model.proofs.Tokens.{formed, assigned_sequence, assigned_of}
use Rattle.isolation.specs.Agrees.{given, Agreeing, Agrees}
use Rattle.isolation.specs.History.{Event, recorded}
use Rattle.isolation.specs.Recall.{unassigned, recall, home_in, used_in}
use Rattle.isolation.proofs.Record.{memory, standing_gives, entry_gives, Remembers, gives_unused, gives_other, gives_standing}
use Rattle.isolation.proofs.RecordKept.{ready_run, recorded_all}

module _ (s : State) (ok : Sound s) (g : ℕ) (on : enrolled s.guests g ≡ true) where
  abbrev list : ℕ
  list = (guest_at s.guests g).list

  -- a well-formed token that is not assigned is given nothing by its entry, any other what the standing gives
  not_assigned : (t : ℕ) → IsEntry (entry_number t) → assigned s.entries g list t ≡ false → entry_gives s.spaces (entry_at s.entries g (entry_number t)) (upper_half t) ≡ unassigned
  not_assigned t i no_one = go (dec_le (entry_number t) (list + 1)) (true_or_false (is_unused e.standing)) (ℕ_discrete e.sequence (upper_half t))
    where
      e : Entry
      e = entry_at s.entries g (entry_number t)

      go : Dec (entry_number t ≤ list + 1) → (is_unused e.standing ≡ true) ⊎ (is_unused e.standing ≡ false) → Dec (e.sequence ≡ upper_half t) → entry_gives s.spaces e (upper_half t) ≡ unassigned
      go (no above) u q =
          gives_unused s.spaces e _ (ap (λ (x : Entry). x.standing) (ok.entries.above g (entry_number t) (enrolled_guest s.guests g on) i (omega arith)))
      go (yes b) (inl u) q = gives_unused s.spaces e _ (unused_is e.standing u)
      go (yes b) (inr u) (no q) = gives_other s.spaces e _ q
      go (yes b) (inr u) (yes q) = true_false (assigned_of s.entries g list t b u q) no_one

  through_gives : (x : Standing) → given s (through_standing x) ≡ standing_gives s.spaces x
  unfolding given through_standing standing_gives number choose
  through_gives Unused = refl
  through_gives (Valid u r) = refl
  through_gives Revoked = refl

  entry_says : (t : ℕ) → IsEntry (entry_number t) → entry_gives s.spaces (entry_at s.entries g (entry_number t)) (upper_half t)
      ≡ given s (choose (not (assigned s.entries g list t)) (Err AlenTranslation) (through_standing (entry_at s.entries g (entry_number t)).standing))
  unfolding given number choose
  entry_says t i = go (true_or_false (assigned s.entries g list t))
    where
      e : Entry
      e = entry_at s.entries g (entry_number t)

      go : (assigned s.entries g list t ≡ true) ⊎ (assigned s.entries g list t ≡ false)
          → entry_gives s.spaces e (upper_half t) ≡ given s (choose (not (assigned s.entries g list t)) (Err AlenTranslation) (through_standing e.standing))
      go (inl a) = gives_standing s.spaces e _ (assigned_sequence s.entries g list t a) ∙ sym (through_gives e.standing) ∙ rw a refl
      go (inr n) = not_assigned t i n ∙ rw n refl

  -- any token: token 0, a malformed one, a well-formed one
  recall_says : (h : List Event) → Remembers s (memory h) → (t : ℕ) → recall h g t ≡ given s (translate s g t)
  unfolding recall translate given number choose primary_slot
  recall_says h rem t = go (true_or_false (eqb t 0)) (true_or_false (malformed t))
    where
      home : home_in h g ≡ (space_at s.spaces (primary_slot s.spaces g)).id
      home =
          let f = named_found s.spaces g base_name (primary_lt s.spaces g (ok.guests.primary g on)) in
          rw f.1 at (rem.homes (primary_slot s.spaces g) f.0 f.2)

      go : (eqb t 0 ≡ true) ⊎ (eqb t 0 ≡ false) → (malformed t ≡ true) ⊎ (malformed t ≡ false) → recall h g t ≡ given s (translate s g t)
      go (inl z) f = rw (z, home) refl
      go (inr z) (inl f) = rw (z, f) refl
      go (inr z) (inr f) =
          let n = eqb-false t 0 z in
          rw (z, f) (rem.tokens g t (enrolled_guest s.guests g on) n f ∙ entry_says t (formed t n f).entry)

pub agreeing : (s : State) (h : List Event) → Sound s → Remembers s (memory h) → Agreeing s h
unfolding used_in token_used
agreeing s h ok rem = record {
  owners = rem.owners;
  grants = λ u g l on. rem.grants u g l (enrolled_guest s.guests g on);
  tokens = λ g t on. recall_says s ok g on h rem t;
  used = λ c r on b. let i = enrolled_guest s.guests c.guest on in rw (rem.modes c i, rem.loads c r i b) refl;
}

pub agrees : Agrees
agrees F scratch calls ready =
    let m : Machine = record { tables = empty_tables F 1; scratch = scratch } in
    agreeing (after_run m calls).tables (recorded [] m calls) (ready_run calls m ready).sound (recorded_all F scratch calls ready).remembers
