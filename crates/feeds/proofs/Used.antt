-- How much of a piece is taken is one number. Assumes nothing.
use Prim.Native.Nat.{ℕ, ◌≤◌, ◌<◌}
use mathlib.Core.List.{List}
use mathlib.Core.Path.{◌≡◌}
use native.Mathlib.Decide.{dec_le}
use native.Mathlib.Omega.{arith}
use lib.ListN.{length}
use Rattle.feeds.specs.Feed.{Feed}
use Rattle.feeds.specs.Fed.{FedTo}

module _ (f : Feed) (input out : List ℕ) where
  -- where the one stopped the other had room, and went on
  no_less : (u v w x : ℕ) (g h : Feed) (o p : List ℕ) → FedTo f input out u w g o → FedTo f input out v x h p → v ≤ u
  no_less u v w x g h o p a b = go (dec_le v u)
    where
      go : Dec (v ≤ u) → v ≤ u
      go (yes l) = l
      go (no n) =
          let less : u < length input = omega (arith, b.going.within) in
          let full = a.stopped less in
          let room = b.going.room u (omega arith) (a.at_start less) in
          absurd (omega (arith, full, room, a.going.text.place))

  pub used_once : (u v w x : ℕ) (g h : Feed) (o p : List ℕ) → FedTo f input out u w g o → FedTo f input out v x h p → u ≡ v
  used_once u v w x g h o p a b = omega (arith, no_less u v w x g h o p a b, no_less v u x w h g p o b a)
