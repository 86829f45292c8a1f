-- From what FETCH and STORE have seen to what the model judges. Assumes nothing.
use Prim.Native.Nat.{ℕ, ◌+◌, ◌-◌, ◌*◌, ◌/◌, ◌≤◌, ◌<◌}
use mathlib.Core.Bool.{Bool, true}
use mathlib.Core.List.{List}
use mathlib.Core.Logic.{⊎_elim, ◌≢◌}
use mathlib.Core.Path.{◌≡◌, refl, sym, ap, ap₂, ◌∙◌}
use native.Mathlib.Decide.{dec_le}
use native.Mathlib.Omega.{arith}
use lib.Dec.{leb}
use lib.ListN.{length, get_or}
use borrow.Author.Tests.{leb-true, le-leb, lt-ltb, eq-eqb, ne_eqb}
use Rattle.lists.proofs.Choice.{yes!, no!, both_left, both_right}
use Rattle.model.specs.declared.Entry.{Entry}
use Rattle.model.specs.declared.Guest.{Guest}
use Rattle.model.specs.declared.Operation.{Operation}
use Rattle.model.specs.declared.Right.{Right}
use Rattle.model.specs.declared.Standing.TheVariants.{Valid}
use Rattle.model.specs.declared.State.{State}
use Rattle.model.specs.Arguments.{good_length}
use Rattle.model.specs.Frames.{layout, frame_of}
use Rattle.model.specs.Keys.{block_at, key_permits}
use Rattle.model.specs.Searches.{enrolled, primary_slot}
use Rattle.model.specs.Sound.{Live, Sound}
use Rattle.model.specs.SoundTest.{sound}
use Rattle.model.specs.Sizes.{frame_size}
use Rattle.model.specs.Tables.{space_at, guest_place, cpu_at, cell_at, entry_at, unused_entry}
use Rattle.model.specs.Through.{ThroughPrimary, ThroughEntry}
use Rattle.model.specs.Tokens.{token_used, entry_number}
use Rattle.model.specs.Translation.{Translation, reaches, translate}
use Rattle.model.proofs.Reached.{reached, reached_live}
use Rattle.model.proofs.Searches.{live_slot}
use Rattle.model.proofs.SoundTest.{sound_decides}
use Rattle.lookup.specs.Rows.{row_of, slot_row}
use Rattle.keys.specs.Guards.{guard_allows}
use Rattle.keys.proofs.Guarded.{guarded}
use Rattle.transfer.specs.Transferred.{RunIn, inside}
use Rattle.translation.specs.Translated.{token_place, translated_by}
use Rattle.translation.proofs.Translated.{translated_is, named_place}
use Rattle.asks.specs.declared.Asks.{Asks}
use Rattle.views.specs.declared.View.{View}
use Rattle.asks.specs.Asks.{moving, asks_by}
use Rattle.views.specs.Token.{token_by}
use Rattle.views.specs.Search.{slot_using, slot_through, slot_in}
use Rattle.views.specs.Views.{cell_place, view_of}
use Rattle.views.proofs.Cells.{cell_frame}
use Rattle.views.proofs.Judged.{seen_enrolled, row_own, seen_guest}

-- guest g has passed check 2 and the register its own, and the translation for it through register r is x
pub record Aimed (s : State) (g r : ℕ) (x : Translation) : Type 0 where
  pub guest : enrolled s.guests g ≡ true
  pub register : r ≤ 15
  pub is : x ≡ translate s g (token_used (cpu_at s.cpus (guest_place g)) r)

-- the call o of guest g has been seen, through register r from address a on
module _ (s : State) (g r a : ℕ) (o : Operation) (v : View) (asks : asks_by g o ≡ moving g r a) (e : v ≡ view_of s (asks_by g o)) (l : v.place < 8) (b : r ≤ 15) where
  row : row_of g ≡ guest_place g
  row = ap (λ (k : Asks). row_of k.caller) (sym asks) ∙ row_own s g o v e l

  seen : v ≡ view_of s (moving g r a)
  seen = e ∙ ap (view_of s) asks

  abbrev token : ℕ
  token = token_used (cpu_at s.cpus (guest_place g)) r

  token_is : v.token ≡ token
  unfolding view_of token_by
  token_is = ap (λ (x : View). x.token) seen ∙ yes! _ _ (le-leb r 15 b) ∙ ap (λ k. token_used (cpu_at s.cpus k) r) row

  entry_is : v.entry ≡ get_or s.entries (token_place (guest_place g) token) unused_entry
  unfolding view_of
  entry_is =
      ap (λ (x : View). x.entry) seen
      ∙ ap₂ (λ k t. get_or s.entries (token_place k t) unused_entry) row (sym (ap (λ (x : View). x.token) seen) ∙ token_is)

  slot_is : v.slot ≡ slot_through g token v.entry.standing s.spaces
  unfolding view_of slot_using
  slot_is =
      ap (λ (x : View). x.slot) seen
      ∙ ap₂ (λ t y. slot_through g t y s.spaces) (sym (ap (λ (x : View). x.token) seen) ∙ token_is) (ap (λ (x : View). x.entry.standing) (sym seen))

  -- token 0: the primary space
  slot_primary : token ≡ 0 → v.slot ≡ primary_slot s.spaces g
  unfolding slot_through primary_slot
  slot_primary z = slot_is ∙ yes! _ _ (eq-eqb token 0 z)

  -- an entry: its space
  slot_entry : (u : ℕ) (q : Right) → token ≢ 0 → v.entry.standing ≡ Valid u q → v.slot ≡ u
  unfolding slot_through slot_in
  slot_entry u q z p = slot_is ∙ no! _ _ (ne_eqb token 0 z) ∙ ap slot_in p

  module _ (x : Translation) (y : x ≡ translated_by v.slot v.guest.list v.entry v.token) where
    pub aimed : Aimed s g r x
    aimed = record {
      guest = seen_enrolled s g o v e l;
      register = b;
      is = y
          ∙ ap (translated_by v.slot v.guest.list v.entry) token_is
          ∙ ap₂ (λ (h : Guest) n. translated_by v.slot h.list n token) (seen_guest s g o v e l) entry_is
          ∙ translated_is s g (guest_place g) token v.slot refl slot_primary;
    }

    -- the space reached is the one that was seen
    module _ (so : sound s ≡ true) (u : ℕ) (q : Right) (f : x ≡ reaches u q) where
      ok : Sound s
      ok = (sound_decides s).to so

      reached_is_live : Live s.spaces u
      reached_is_live = reached_live s ok g token u q aimed.guest (sym aimed.is ∙ f)

      slot_reached : v.slot ≡ u
      slot_reached = ⊎_elim primary entry (reached s g token u q (sym aimed.is ∙ f))
        where
          primary : ThroughPrimary s g token u q → v.slot ≡ u
          primary p = slot_primary p.token ∙ sym p.slot

          entry : ThroughEntry s g token u q → v.slot ≡ u
          entry p =
              let named : v.entry ≡ entry_at s.entries g (entry_number token) =
              entry_is ∙ ap (λ k. get_or s.entries k unused_entry) (named_place (guest_place g) token p.token p.formed) in
              slot_entry u q p.token (ap (λ (n : Entry). n.standing) named ∙ p.valid)

      pub reached_space : v.space ≡ space_at s.spaces u
      unfolding view_of slot_row
      reached_space =
          ap (λ (k : View). k.space) seen
          ∙ ap (λ k. space_at s.spaces (slot_row k)) (sym (ap (λ (k : View). k.slot) seen) ∙ slot_reached)
          ∙ ap (space_at s.spaces) (yes! _ _ (lt-ltb u 32 (live_slot s.spaces u 32 ok.spaces.len reached_is_live)))

      -- what protects the blocks of a page and of the next one, where the space has them
      block_is : a / frame_size < (space_at s.spaces u).pages → v.guard.block ≡ block_at s u a
      unfolding view_of
      block_is b =
          ap (λ (k : View). k.guard.block) seen
          ∙ ap (λ x. cell_at s.cells (cell_place x (a / frame_size))) (sym (ap (λ (k : View). k.space) seen) ∙ reached_space)
          ∙ ap (cell_at s.cells) (cell_frame s u (a / frame_size) ok reached_is_live b)

      beyond_is : a / frame_size + 1 < (space_at s.spaces u).pages → v.guard.beyond ≡ cell_at s.cells (frame_of (layout s) u (a / frame_size + 1))
      unfolding view_of
      beyond_is b =
          ap (λ (k : View). k.guard.beyond) seen
          ∙ ap (λ x. cell_at s.cells (cell_place x (a / frame_size + 1))) (sym (ap (λ (k : View). k.space) seen) ∙ reached_space)
          ∙ ap (cell_at s.cells) (cell_frame s u (a / frame_size + 1) ok reached_is_live b)

      key_is : v.guard.key ≡ (cpu_at s.cpus (guest_place g)).key
      unfolding view_of
      key_is = ap (λ (k : View). k.guard.key) seen ∙ ap (λ k. (cpu_at s.cpus k).key) row

      -- check 22 of an access inside the space
      pub guard_reached : (n : ℕ) → good_length n ≡ true → (w : Bool) → inside (space_at s.spaces u) a n ≡ true
          → guard_allows v.guard w a n ≡ key_permits s w (cpu_at s.cpus (guest_place g)).key u a n
      guard_reached n good w t =
          let low = leb-true 1 n (both_left _ _ good) in
          let high = leb-true n 256 (both_right (leb 1 n) _ good) in
          let end = leb-true (a + n) ((space_at s.spaces u).pages * 4096) t in
          guarded s w u a n v.guard low (omega arith) (block_is (omega arith)) (λ over. beyond_is (omega arith))
          ∙ ap (λ k. key_permits s w k u a n) key_is

-- Whatever slot was seen, the frames of what stands there are in scratch: a slot with no live space holds zeros.
pub any_run : (s : State) (u : ℕ) (m : List ℕ) → sound s ≡ true → length m ≡ s.frames * 4096 → RunIn (space_at s.spaces u) m
unfolding frame_of
any_run s u m so room = go (dec_le 1 (space_at s.spaces u).id)
  where
    ok : Sound s
    ok = (sound_decides s).to so

    go : Dec (1 ≤ (space_at s.spaces u).id) → RunIn (space_at s.spaces u) m
    go (no n) = rw (ok.spaces.dead u (omega arith)) (omega arith)
    go (yes live) =
        let y = space_at s.spaces u in
        let one : 1 ≤ y.pages = ok.spaces.pages u live in
        omega (arith, room, ok.spaces.inside u (y.pages - 1) live (omega arith))

pub seen_run : (s : State) (a : Asks) (v : View) (m : List ℕ) → sound s ≡ true → length m ≡ s.frames * 4096 → v ≡ view_of s a → RunIn v.space m
unfolding view_of
seen_run s a v m so room e = rw e (any_run s _ m so room)
