-- Instances of the second half: records with a ground for the next fetch or store, and records with none. Assumes nothing.
use Prim.Native.Nat.{ℕ, ◌+◌, ◌*◌, ◌≤◌}
use mathlib.Core.Bool.{true}
use mathlib.Core.List.{List, [], ◌∷◌, ◌++◌}
use mathlib.Core.Logic.{◌≢◌, ◌⊎◌, inl, inr, ⊎_elim}
use mathlib.Core.Path.{◌≡◌, refl, ap}
use native.Mathlib.Decide.{ℕ_discrete}
use native.Mathlib.Omega.{arith}
use lib.ListN.{take}
use Rattle.lists.specs.Choice.{choose, both}
use Rattle.lists.proofs.Choice.{true_false}
use Rattle.model.specs.declared.Operation.TheVariants.{Isolate, Add, Remove, Load, Reset}
use Rattle.model.specs.declared.Right.{Right}
use Rattle.model.specs.declared.Right.TheVariants.{Read, Write}
use Rattle.model.specs.Classes.{is_store}
use Rattle.model.specs.Step.{Issue}
use Rattle.isolation.specs.Ground.{Never, Did, Owns, AtLeast, GivesUp, Withdraws, PermittedBefore, ByEntry, Ground}
use Rattle.isolation.specs.History.{Event, Deed, nothing, enrolled, created, destroyed, permitted, isolated, added, removed, loaded, switched, reset, deed_done, deed_of, deed}
use Rattle.isolation.specs.Records.{done, founding, permitting, session, writing, owning, late, unowned, fetch, store}
use Rattle.isolation.specs.Recall.{mode_by, mode_in, load_by, load_in, used_in}
use Rattle.isolation.proofs.Did.{did_more, did_in, never_map, Undone, undone}
use Rattle.isolation.proofs.NoGround as laws

-- whoever unfolds this unfolds all by which a record tells its deeds and the token used
telling : Type 0
unfolding deed_of deed_done used_in mode_in mode_by load_in load_by choose both
telling = Unit {0}

-- A number for each deed: its kind, guest, right, space, and token or other guest, as digits. Deeds with different numbers
-- differ, and so arithmetic tells that a deed is none of a record's.
abbrev digit : Right → ℕ
digit Read = 0
digit Write = 1

abbrev code : Deed → ℕ
code nothing = 0
code (loaded c r v) = 0
code (switched c m) = 0
code (enrolled g x) = 1 + 10 * g + 1000 * x
code (created g x) = 2 + 10 * g + 1000 * x
code (destroyed g x) = 3 + 10 * g + 1000 * x
code (permitted g x h r) = 4 + 10 * g + 100 * digit r + 1000 * x + 100000 * h
code (isolated g x) = 5 + 10 * g + 1000 * x
code (added g x r t) = 6 + 10 * g + 100 * digit r + 1000 * x + 100000 * t
code (removed g t) = 7 + 10 * g + 100000 * t
code (reset g) = 8 + 10 * g

-- the deed of the latest call
abbrev now : (e : Event) (h : List Event) → Did (e ∷ h) (deed e)
now e h = record { later = []; event = e; earlier = h; split = refl; is = refl }

-- With a ground. Loading, switching and what was refused give up and withdraw nothing.
abbrev Quiet : List Event → Type 0
Quiet h = Never (λ d. 1 ≤ code d) h

gives_up_code : (g t : ℕ) (d : Deed) → GivesUp g t d → 1 ≤ code d
gives_up_code g t d =
    ⊎_elim (λ (p : (x : ℕ) × (r : Right) × (d ≡ added g x r t)). omega (arith, ap code p.2))
    (⊎_elim (λ q. omega (arith, ap code q)) (λ q. omega (arith, ap code q)))

withdraws_code : (o x : ℕ) (d : Deed) → Withdraws o x d → 1 ≤ code d
withdraws_code o x d = ⊎_elim (λ (p : (g : ℕ) × (d ≡ isolated g x)). omega (arith, ap code p.1)) (λ q. omega (arith, ap code q))

-- an ADD with quiet calls since
entry : (l h : List Event) (i : Issue) (r : Right) (o : ℕ) → Quiet l → Did h (created o 3) → (is_store i.call.operation ≡ true → r ≡ Write)
    → (o ≡ i.call.caller.guest) ⊎ PermittedBefore [] h o i.call.caller.guest 3 r
    → ByEntry (l ++ (done i.call.caller.guest (Add 3 r) 2 ∷ h)) i.call.operation i.call.caller.guest 2 3
unfolding telling
entry l h i r o quiet made writes basis = record {
  right = r;
  did = record { later = l; event = done i.call.caller.guest (Add 3 r) 2; earlier = h; split = refl; is = refl };
  last = never_map _ _ (gives_up_code i.call.caller.guest 2) l quiet;
  write = writes;
  owner = o;
  owns = inr (did_in l _ _ (did_more _ h _ made));
  basis = ⊎_elim (λ e. inl e) (λ (p : PermittedBefore [] h o i.call.caller.guest 3 r).
      inr (record { right = p.right; did = p.did; enough = p.enough; since = p.since; since_add = never_map _ _ (withdraws_code o 3) l quiet })) basis;
}

made : Did founding (created 1 3)
unfolding telling
made = now _ _

permit : (r : Right) → AtLeast r r → PermittedBefore [] (permitting r) 1 2 3 r
unfolding telling
permit r enough = record { right = r; did = now _ _; enough = enough; since = tt; since_add = tt }

-- (i) a PERMIT and an ADD
pub by_permit : Ground session (fetch 2) 3
unfolding telling
by_permit = record {
  register = 5;
  through = refl;
  way = inr ((λ e. omega arith), entry (take 3 session) (permitting Read) (fetch 2) Read 1 (omega arith) (did_more _ _ _ made) (λ w. true_false w refl) (inr (permit Read tt)));
}

-- (ii) the owner's own ADD
pub by_owner : Ground owning (store 1) 3
unfolding telling
by_owner = record {
  register = 5;
  through = refl;
  way = inr ((λ e. omega arith), entry (take 2 owning) founding (store 1) Write 1 (omega arith) made (λ w. refl) (inl refl));
}

-- (iii) token 0: guest 2 has loaded a token, and is in primary mode
pub by_enrol : Ground (done 2 (Load 5 2) 0 ∷ founding) (fetch 2) 2
unfolding telling
by_enrol = record {
  register = 5;
  through = refl;
  way = inl (refl, did_more _ _ _ (did_more _ _ _ (now _ _)));
}

-- (iv) a store by W
pub by_write : Ground writing (store 2) 3
unfolding telling
by_write = record {
  register = 5;
  through = refl;
  way = inr ((λ e. omega arith), entry (take 2 writing) (permitting Write) (store 2) Write 1 (omega arith) (did_more _ _ _ made) (λ w. refl) (inr (permit Write tt)));
}

-- With none: the laws of NoGround on such records. Guest 2 goes for space 3, which is guest 1's, through token 2 in register 5.
coded : (d : Deed) (h : List Event) → Never (λ x. code x ≡ code d) h → Undone d h
coded d h n = never_map (λ x. x ≡ d) (λ x. code x ≡ code d) (λ x q. ap code q) h n

-- a record in which space 3 is nobody's but guest 1's
abbrev Sole : List Event → Type 0
Sole h = (o : ℕ) → o ≢ 1 → Never (λ d. code d ≡ code (enrolled o 3)) h × Never (λ d. code d ≡ code (created o 3)) h

sole_owner : (h : List Event) → Sole h → (o : ℕ) → Owns h o 3 → o ≡ 1
sole_owner h sole o w = go (ℕ_discrete o 1)
  where
    go : Dec (o ≡ 1) → o ≡ 1
    go (yes q) = q
    go (no ne) = absurd (⊎_elim (undone (enrolled o 3) h (coded _ h (sole o ne).0)) (undone (created o 3) h (coded _ h (sole o ne).1)) w)

-- (v) an ISOLATE between PERMIT and use: after the ADD, and before it
pub none_isolated : Ground (done 1 (Isolate 3) 0 ∷ session) (fetch 2) 3 → ⊥
unfolding telling
none_isolated = laws.none_isolated _ (fetch 2) 3 5 refl (omega arith) 1 (sole_owner _ (λ o ne. omega arith)) (omega arith) [] _ session refl 1 refl (λ q. tt)

pub none_isolated_before : Ground (take 4 session ++ (done 1 (Isolate 3) 0 ∷ permitting Read)) (fetch 2) 3 → ⊥
unfolding telling
none_isolated_before =
    laws.none_isolated _ (fetch 2) 3 5 refl (omega arith) 1 (sole_owner _ (λ o ne. omega arith)) (omega arith) (take 4 session) _ (permitting Read) refl 1 refl (λ q. coded _ (take 4 session) (omega arith))

-- (vi) a RESET by the owner since
pub none_reset : Ground (done 1 Reset 0 ∷ session) (fetch 2) 3 → ⊥
unfolding telling
none_reset = laws.none_owner_reset _ (fetch 2) 3 5 refl (omega arith) 1 (sole_owner _ (λ o ne. omega arith)) (omega arith) [] _ session refl refl (λ q. tt)

-- (vii) a read ADD for a store
pub none_reading : Ground session (store 2) 3 → ⊥
unfolding telling
none_reading = laws.none_write _ (store 2) 3 5 refl (omega arith) refl (coded _ session (omega arith))

-- (viii) a REMOVE of the token since
pub none_removed : Ground (done 2 (Remove 2) 0 ∷ session) (fetch 2) 3 → ⊥
unfolding telling
none_removed = laws.none_removed _ (fetch 2) 3 5 refl (omega arith) [] _ session refl refl (λ q. tt)

-- (ix) an ADD by another guest than the owner with no PERMIT
pub none_permitted : Ground (take 4 session ++ founding) (fetch 2) 3 → ⊥
unfolding telling
none_permitted = laws.none_permitted _ (fetch 2) 3 5 refl (omega arith) 1 (sole_owner _ (λ o ne. omega arith)) (omega arith) (λ q. coded _ (take 4 session ++ founding) (omega arith))

-- (x) a write ADD and a store after a PERMIT to read
pub none_enough : Ground (take 3 writing ++ permitting Read) (store 2) 3 → ⊥
unfolding telling
none_enough =
    let h = take 3 writing ++ permitting Read in
    laws.none_enough h (store 2) 3 5 refl (omega arith) 1 (sole_owner h (λ o ne. omega arith)) (omega arith) (coded _ h (omega arith)) (coded _ h (omega arith))

-- (xi) its own RESET since the ADD
pub none_own_reset : Ground (done 2 Reset 0 ∷ session) (fetch 2) 3 → ⊥
unfolding telling
none_own_reset = laws.none_own_reset _ (fetch 2) 3 5 refl (omega arith) [] _ session refl refl (λ q. tt)

-- (xii) the token as value of a later ADD, of guest 2's own space 2
pub none_added_again : Ground (done 2 (Add 2 Read) 2 ∷ session) (fetch 2) 3 → ⊥
unfolding telling
none_added_again = laws.none_added_again _ (fetch 2) 3 5 refl (omega arith) [] _ session refl 2 Read refl (omega arith) (λ q. tt)

-- (xiii) token 0 and a data space, even the guest's own
pub none_home : Ground founding (fetch 1) 3 → ⊥
unfolding telling
none_home = laws.none_home _ (fetch 1) 3 5 refl refl (coded _ founding (omega arith))

-- (xiv) a PERMIT only after the ADD
pub none_permitted_first : Ground late (fetch 2) 3 → ⊥
unfolding telling
none_permitted_first =
    laws.none_permitted_first _ (fetch 2) 3 5 refl (omega arith) 1 (sole_owner _ (λ o ne. omega arith)) (omega arith) (take 3 late) _ founding refl
    (λ q. coded _ (take 3 late) (omega arith)) (λ q. coded _ founding (omega arith))

-- (xv) a PERMIT by a guest that is not the owner
pub none_permitted_by_owner : Ground unowned (fetch 2) 3 → ⊥
unfolding telling
none_permitted_by_owner = laws.none_permitted _ (fetch 2) 3 5 refl (omega arith) 1 (sole_owner _ (λ o ne. omega arith)) (omega arith) (λ q. coded _ unowned (omega arith))
