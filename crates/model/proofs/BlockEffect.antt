-- What a done BLOCK does, in the words of paper 02, M-100, and that it does nothing else. Assumes nothing.
use Prim.Native.Nat.{ℕ, ◌/◌, ◌≤◌, ◌<◌}
use mathlib.Core.Logic.{◌≢◌}
use mathlib.Core.Path.{◌≡◌, refl}
use native.Mathlib.Omega.{arith}
use lib.Dec.{eqb}
use lib.Seq.{get_or-set_same, get_or-set_other}
use borrow.Author.Tests.{leb-true}
use Rattle.model.specs.declared.Caller.{Caller}
use Rattle.model.specs.declared.Cell.{Cell}
use Rattle.model.specs.declared.Operation.TheVariants.{Block}
use Rattle.model.specs.declared.State.{State}
use Rattle.model.specs.Arguments.{arguments}
use Rattle.model.specs.Decision.{after}
use Rattle.model.specs.Frames.{layout, frame_of, size_of}
use Rattle.model.specs.Granted.{Performed, AllFit}
use Rattle.model.specs.Keys.{block_at}
use Rattle.model.specs.Searches.{slot_of}
use Rattle.model.specs.Sizes.{frame_size}
use Rattle.model.specs.Tables.{no_cell, space_at, cell_at, with_cells}
use Rattle.model.proofs.Blocks.{block_place}
use Rattle.model.proofs.Effects.{IsSpace, is_space_lem, by, Done, all, ok}

-- "BLOCK takes a space the caller owns, address in it, key, mark (0 or 1)": the block of the address has this key and mark, and every
-- other cell stands as it stood
pub record BlockEffect (s t : State) (g i a k m : ℕ) : Type 0 where
  pub slot : ℕ
  pub space : IsSpace s i slot
  pub owner : (space_at s.spaces slot).owner ≡ g
  pub inside : a < size_of s.spaces slot
  pub small : (k ≤ 15) × (m ≤ 1)
  pub cell : block_at t slot a ≡ record { key = k; mark = eqb m 1 }
  pub others : (f : ℕ) → f ≢ frame_of (layout s) slot (a / frame_size) → cell_at t.cells f ≡ cell_at s.cells f
  pub rest : t ≡ with_cells s t.cells

pub block_does : (s : State) (m : ℕ) (c : Caller) (n i a k x : ℕ) → Done s m c n (Block i a k x) → BlockEffect s (after s (by s m c n (Block i a k x))) c.guest i a k x
unfolding Performed arguments AllFit
block_does s m c n i a k x done =
    let p = (all s m c n (Block i a k x) done).performed in
    let fit = (all s m c n (Block i a k x) done).arguments in
    let fine = ok s m c n (Block i a k x) done in
    let u = slot_of s.spaces i in
    let f = frame_of (layout s) u (a / frame_size) in
    let y : Cell = record { key = k; mark = eqb x 1 } in
    let space = is_space_lem s i p.owning.slot in
    rw p.is (record {
      slot = u;
      space = space;
      owner = p.owning.owner;
      inside = p.inside;
      small = (leb-true k 15 fit.0, leb-true x 1 fit.1.0);
      cell = get_or-set_same s.cells f y no_cell (omega (arith, block_place s u a fine p.owning.slot space.live p.inside, fine.cells.len));
      others = λ h ne. get_or-set_other s.cells f h y no_cell ne;
      rest = refl;
    })
