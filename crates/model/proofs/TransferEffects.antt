-- What a done LOAD, MODE, KEY, FETCH and STORE do, in the words of their rows in the papers, and which token a register stands
-- for.
-- Assumes nothing.
use Prim.Native.Nat.{ℕ, ◌+◌, ◌≤◌, ◌<◌}
use mathlib.Core.Bool.{Bool, true, false}
use mathlib.Core.List.{List}
use mathlib.Core.Logic.{◌≢◌, ◌⊎◌, inl, ⊎_elim}
use mathlib.Core.Path.{◌≡◌, refl, ap, ◌∙◌}
use native.Mathlib.Omega.{arith}
use lib.Dec.{eqb}
use lib.ListN.{length, get_or, set}
use lib.Seq.{get_or-set_same, get_or-set_other}
use borrow.Author.Tests.{ne_eqb, leb-true}
use Rattle.lists.specs.Bytes.{part}
use Rattle.lists.specs.Choice.{choose, both}
use Rattle.lists.proofs.Choice.{true_false}
use Rattle.model.specs.declared.Caller.{Caller}
use Rattle.model.specs.declared.Cpu.{Cpu}
use Rattle.model.specs.declared.Operation.TheVariants.{Load, Mode, Fetch, Store, Key}
use Rattle.model.specs.declared.Right.{Right}
use Rattle.model.specs.declared.Right.TheVariants.{Read, Write}
use Rattle.model.specs.declared.State.{State}
use Rattle.model.specs.Arguments.{arguments}
use Rattle.model.specs.Calls.{writes, target, access_key, enrols, good_caller}
use Rattle.model.specs.Decision.{Decision, after, Effect, store}
use Rattle.model.specs.Frames.{size_of, bytes_of}
use Rattle.model.specs.Granted.{Accessed, Performed, AllFit}
use Rattle.model.specs.Keys.{block_at}
use Rattle.model.specs.Names.{base_name}
use Rattle.model.specs.Searches.{enrolled, primary_slot}
use Rattle.model.specs.Sound.{Live, IsGuest, Sound}
use Rattle.model.specs.Step.{scratch_after, buffer_after}
use Rattle.model.specs.Tables.{no_cpu, guest_at, cpu_at, cpu_place, with_cpus, with_registers, with_mode, with_key}
use Rattle.model.specs.Through.{ThroughPrimary, ThroughEntry}
use Rattle.model.specs.Tokens.{entry_number, token_used}
use Rattle.model.proofs.Effects.{May, by, Done, all, ok, guest}
use Rattle.model.proofs.Keys.{KeyAllows, keys_decide}
use Rattle.model.proofs.Reached.{reached, reached_live}
use Rattle.model.proofs.Searches.{enrolled_guest, primary_lt, named_found}
use Rattle.model.proofs.SpaceBytes.{fetch_bytes}
use Rattle.model.proofs.Tokens.{formed}

-- "In primary mode, and for register 0 in either mode, the token used is 0 whatever was loaded. Otherwise it is the
-- register's value."
module _ (b : Cpu) where
  pub token_primary : (r : ℕ) → b.mode ≡ false → token_used b r ≡ 0
  unfolding token_used choose both
  token_primary r e = rw e

  pub token_register_0 : token_used b 0 ≡ 0
  unfolding token_used choose both
  token_register_0 = go b.mode refl
    where
      go : (on : Bool) → b.mode ≡ on → token_used b 0 ≡ 0
      go true e = rw e
      go false e = rw e

  pub token_loaded : (r : ℕ) → b.mode ≡ true → r ≢ 0 → token_used b r ≡ get_or b.registers r 0
  unfolding token_used choose both
  token_loaded r e ne = rw (e, ne_eqb r 0 ne)

-- one CPU block set, every other as it stood, and no other table changed
pub record OneCpu (s t : State) (c : Caller) (x : Cpu) : Type 0 where
  pub cpu : cpu_at t.cpus (cpu_place c) ≡ x
  pub others : (k : ℕ) → k ≢ cpu_place c → cpu_at t.cpus k ≡ cpu_at s.cpus k
  pub rest : t ≡ with_cpus s t.cpus

one_cpu : (s : State) (c : Caller) (x : Cpu) → Sound s → IsGuest c.guest → OneCpu s (with_cpus s (set s.cpus (cpu_place c) x)) c x
one_cpu s c x ok i = record {
  cpu = get_or-set_same s.cpus (cpu_place c) x no_cpu (omega (arith, i.low, i.high, ok.guests.cpus));
  others = λ k ne. get_or-set_other s.cpus (cpu_place c) k x no_cpu ne;
  rest = refl;
}

-- LOAD changes one register, MODE the mode, KEY the access key
pub record LoadEffect (s t : State) (c : Caller) (r v : ℕ) : Type 0 where
  pub loaded : get_or (cpu_at t.cpus (cpu_place c)).registers r 0 ≡ v
  pub registers : (q : ℕ) → q ≢ r → get_or (cpu_at t.cpus (cpu_place c)).registers q 0 ≡ get_or (cpu_at s.cpus (cpu_place c)).registers q 0
  pub mode : (cpu_at t.cpus (cpu_place c)).mode ≡ (cpu_at s.cpus (cpu_place c)).mode
  pub key : (cpu_at t.cpus (cpu_place c)).key ≡ (cpu_at s.cpus (cpu_place c)).key
  pub others : (k : ℕ) → k ≢ cpu_place c → cpu_at t.cpus k ≡ cpu_at s.cpus k
  pub rest : t ≡ with_cpus s t.cpus

pub record ModeEffect (s t : State) (c : Caller) (m : ℕ) : Type 0 where
  pub asf : m ≡ 1 → (guest_at s.guests c.guest).asf ≡ true
  pub cpu : OneCpu s t c (with_mode (cpu_at s.cpus (cpu_place c)) (eqb m 1))

-- "A guest's KEY call sets its access key"
pub record KeyEffect (s t : State) (c : Caller) (k : ℕ) : Type 0 where
  pub small : k ≤ 15
  pub cpu : OneCpu s t c (with_key (cpu_at s.cpus (cpu_place c)) k)

-- FETCH and STORE reach the guest's primary space, or the space of the token's valid entry; n bytes from address a on lie
-- inside it, the guest owns it or is permitted the entry's right, and the block of each of these bytes allows the access.
pub record Reaches (s : State) (c : Caller) (r a n u : ℕ) (x : Right) (storing : Bool) : Type 0 where
  pub through : ThroughPrimary s c.guest (token_used (cpu_at s.cpus (cpu_place c)) r) u x ⊎ ThroughEntry s c.guest (token_used (cpu_at s.cpus (cpu_place c)) r) u x
  pub live : Live s.spaces u
  pub may : May s c.guest u x
  pub inside : a + n ≤ size_of s.spaces u
  pub key : (i : ℕ) → i < n → KeyAllows storing (access_key s c) (block_at s u (a + i))

-- "Bytes of the fetch go to the buffer", for any scratch m and buffer b
pub record FetchEffect (s : State) (c : Caller) (r a n : ℕ) (d : Decision) : Type 0 where
  pub slot : ℕ
  pub right : Right
  pub reaches : Reaches s c r a n slot right false
  pub buffer : (m b : List ℕ) → length b ≡ n → buffer_after (after s d) d.effect m b ≡ part (bytes_of s slot m) a n
  pub scratch : (m b : List ℕ) → scratch_after (after s d) d.effect m b ≡ m
  pub tables : after s d ≡ s

-- "a store replaces only the bytes named" (proofs/StoreFetch); "protection: store through a read entry"
pub record StoreEffect (s : State) (c : Caller) (r a n : ℕ) (d : Decision) : Type 0 where
  pub slot : ℕ
  pub reaches : Reaches s c r a n slot Write true
  pub effect : d.effect ≡ store slot a
  pub tables : after s d ≡ s

writes_is : (r : Right) → writes r ≡ true → r ≡ Write
unfolding writes
writes_is Read e = true_false e refl
writes_is Write e = refl

module _ (s : State) (m : ℕ) (c : Caller) (n : ℕ) where
  pub load_does : (r v : ℕ) → Done s m c n (Load r v) → LoadEffect s (after s (by s m c n (Load r v))) c r v
  unfolding Performed enrols arguments AllFit
  load_does r v done =
      let p = (all s m c n (Load r v) done).performed in
      let i = guest s m c n (Load r v) refl done in
      let fine = ok s m c n (Load r v) done in
      let b = cpu_at s.cpus (cpu_place c) in
      let one = one_cpu s c (with_registers b (set b.registers r v)) fine i in
      rw p.is (record {
        loaded = ap (λ (x : Cpu). get_or x.registers r 0) one.cpu
            ∙ get_or-set_same b.registers r v 0 (omega (arith, fine.guests.registers (cpu_place c) (omega (arith, i.low, i.high)), leb-true r 15 (all s m c n (Load r v) done).arguments.0));
        registers = λ q ne. ap (λ (x : Cpu). get_or x.registers q 0) one.cpu ∙ get_or-set_other b.registers r q v 0 ne;
        mode = ap (λ (x : Cpu). x.mode) one.cpu;
        key = ap (λ (x : Cpu). x.key) one.cpu;
        others = one.others;
        rest = refl;
      })

  pub mode_does : (k : ℕ) → Done s m c n (Mode k) → ModeEffect s (after s (by s m c n (Mode k))) c k
  unfolding Performed enrols
  mode_does k done =
      let p = (all s m c n (Mode k) done).performed in
      rw p.is (record { asf = p.asf; cpu = one_cpu s c _ (ok s m c n (Mode k) done) (guest s m c n (Mode k) refl done) })

  pub key_does : (k : ℕ) → Done s m c n (Key k) → KeyEffect s (after s (by s m c n (Key k))) c k
  unfolding Performed enrols arguments AllFit
  key_does k done =
      let p = (all s m c n (Key k) done).performed in
      rw p.is (record { small = leb-true k 15 (all s m c n (Key k) done).arguments.0; cpu = one_cpu s c _ (ok s m c n (Key k) done) (guest s m c n (Key k) refl done) })

  reaches : (r a : ℕ) (storing : Bool) (f : ℕ → Effect) (d : Decision) → Sound s → enrolled s.guests c.guest ≡ true → (p : Accessed s c r a n storing f d) → Reaches s c r a n p.slot p.right storing
  unfolding target primary_slot
  reaches r a storing f d fine on p =
      let g = c.guest in
      let t = token_used (cpu_at s.cpus (cpu_place c)) r in
      let through = reached s g t p.slot p.right p.reached in
      record {
        through = through;
        live = reached_live s fine g t p.slot p.right on p.reached;
        may = ⊎_elim
            (λ q. inl (rw q.slot (named_found s.spaces g base_name (primary_lt s.spaces g (fine.guests.primary g on))).1))
            (λ q. (fine.entries.basis g (entry_number t) p.slot p.right (enrolled_guest s.guests g on) (formed t q.token q.formed).entry q.valid).right)
            through;
        inside = p.inside;
        key = (keys_decide s storing (access_key s c) p.slot a n).to p.key;
      }

  pub store_does : (r a : ℕ) → Done s m c n (Store r a) → StoreEffect s c r a n (by s m c n (Store r a))
  unfolding Performed good_caller enrols choose
  store_does r a done =
      let p = (all s m c n (Store r a) done).performed in
      record {
        slot = p.slot;
        reaches = rw (writes_is p.right (p.writable refl)) at (reaches r a true _ _ (ok s m c n (Store r a) done) (all s m c n (Store r a) done).caller p);
        effect = ap (λ (d : Decision). d.effect) p.is;
        tables = ap (λ (d : Decision). after s d) p.is;
      }

  pub fetch_does : (r a : ℕ) → Done s m c n (Fetch r a) → FetchEffect s c r a n (by s m c n (Fetch r a))
  unfolding Performed good_caller enrols choose buffer_after scratch_after
  fetch_does r a done =
      let p = (all s m c n (Fetch r a) done).performed in
      let fine = ok s m c n (Fetch r a) done in
      let q = reaches r a false _ _ fine (all s m c n (Fetch r a) done).caller p in
      record {
        slot = p.slot;
        right = p.right;
        reaches = q;
        buffer = λ x b len. ap (λ (d : Decision). buffer_after (after s d) d.effect x b) p.is ∙ rw len (fetch_bytes s p.slot a n x (record { live = q.live; fits = q.inside }));
        scratch = λ x b. ap (λ (d : Decision). scratch_after (after s d) d.effect x b) p.is;
        tables = ap (λ (d : Decision). after s d) p.is;
      }
