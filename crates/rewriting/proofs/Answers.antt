-- What the writer answered, and the line that it wrote into its room. Assumes nothing.
use Rattle.std.proofs.Common.{◌≡◌, ℕ, ◌+◌, ◌-◌, ◌%◌, ◌^◌, ◌≤◌, ◌<◌, Bool, true, false, List, [], ◌∷◌, ◌++◌, length, take, drop, set, replicate, sym, refl, ap, ◌∙◌, subst, ap₂, arith, length-drop, length-take, le-leb, leb-true}
use Rattle.lists.specs.Bytes.{over}
use Rattle.lists.specs.Choice.{choose}
use Rattle.lists.proofs.Bytes.{over_lent}
use Rattle.lists.proofs.Choice.{yes!, no!, both_intro, both_no}
use Rattle.model.specs.declared.Answer.{Answer}
use Rattle.model.specs.declared.Answer.TheVariants.{Done, RoomTooSmall, NotWritten}
use Rattle.model.specs.declared.Request.{Request}
use Rattle.model.specs.Lines.{read_line, data_of}
use Rattle.model.specs.Rewritten.{rewritten}
use Rattle.model.specs.Written.{written, takes, fits, write_answer, buffer_after}
use Rattle.digits.specs.Wrote.{Wrote}
use Rattle.digits.proofs.Writing.{over_none, wrote_none, wrote_one, wrote_long, wrote_more}
use Rattle.feeds.specs.Feed.{rewrites, number_after}
use Rattle.forms.specs.Sizes.{most_bytes}
use Rattle.forms.proofs.Sizes.{line_short}
use Rattle.rewriting.proofs.Lent.{lent_takes, lent_written}

-- a line of n bytes was written
record Fitted (q : Request) (d x : List ℕ) (n : ℕ) : Type 0 where
  taken : takes q d ≡ true
  fit : fits (written q d) x ≡ true
  size : n ≡ length (written q d)

done_fitted : (q : Request) (d x : List ℕ) (n : ℕ) → write_answer q d x ≡ Done n → Fitted q d x n
unfolding write_answer choose
done_fitted q d x n e = go (takes q d) refl (fits (written q d) x) refl
  where
    answer_by : (t u : Bool) → Answer
    answer_by t u = choose t (choose u (Done (length (written q d))) RoomTooSmall) NotWritten

    go : (t : Bool) → takes q d ≡ t → (u : Bool) → fits (written q d) x ≡ u → Fitted q d x n
    go true p true r = let k : Done n ≡ Done (length (written q d)) = sym e ∙ ap₂ answer_by p r in record { taken = p; fit = r; size = cc }
    go true p false r = let k : Done n ≡ RoomTooSmall = sym e ∙ ap₂ answer_by p r in cc
    go false p u r = let k : Done n ≡ NotWritten = sym e ∙ ap₂ answer_by p r in cc

-- where there is room for any line, only what the writer does not take is refused
refused : (q : Request) (d x : List ℕ) → most_bytes ≤ length x → ((n : ℕ) → write_answer q d x ≡ Done n → ⊥) → takes q d ≡ false
unfolding write_answer fits
refused q d x room n = go (takes q d) refl
  where
    go : (t : Bool) → takes q d ≡ t → takes q d ≡ false
    go false p = p
    go true p =
        let fit = le-leb (length (written q d)) (length x) (omega (arith, line_short q d p)) in
        absurd (n (length (written q d)) (yes! _ _ p ∙ yes! (Done (length (written q d))) RoomTooSmall fit))

-- The line l was read, its data in b, and handed to the writer with the room from place p on.
module _ (l b out y : List ℕ) (p : ℕ) (q : Request) (a : Answer) (read : q ≡ read_line l) (stored : b ≡ over (replicate 257 0) 0 (data_of l))
    (room : p + 600 ≤ length out) (answer : a ≡ write_answer q b (take (length out - p) (drop p out)))
    (bytes : y ≡ buffer_after q b (take (length out - p) (drop p out))) where
  abbrev lent : List ℕ
  lent = take (length out - p) (drop p out)

  abbrev after : List ℕ
  after = take p out ++ (y ++ drop (length out - p) (drop p out))

  taken_read : (t : Bool) → takes q b ≡ t → takes (read_line l) (data_of l) ≡ t
  taken_read t e = sym (lent_takes l b stored) ∙ ap (λ (k : Request). takes k b) (sym read) ∙ e

  written_read : written q b ≡ written (read_line l) (data_of l)
  written_read = ap (λ (k : Request). written k b) read ∙ lent_written l b stored

  -- a line that was written has room behind it for a newline
  pub line_few : (v : ℕ) → a ≡ Done v → v ≤ most_bytes
  line_few v e =
      let f = done_fitted q b lent v (sym answer ∙ e) in
      let size = f.size in
      omega (arith, size, line_short q b f.taken)

  -- a line was written, and a newline behind it
  pub line_written : (v : ℕ) → a ≡ Done v → Wrote out p (rewritten l) (set after (p + v) 10) (p + v + 1)
  unfolding buffer_after rewritten fits
  line_written v e =
      let f = done_fitted q b lent v (sym answer ∙ e) in
      let line = written q b in
      let long : length line ≤ length lent = leb-true _ _ f.fit in
      let kept : y ≡ over lent 0 line = bytes ∙ yes! _ _ (both_intro _ _ f.taken f.fit) in
      let size = f.size in
      let place : Wrote out p line after (p + v) =
      record { room = omega (arith, long, length-take (length out - p) (drop p out), length-drop p out); place = omega (arith, size); bytes = over_lent out line y p kept } in
      let room_left : p + v < length after = omega (arith, line_few v e, wrote_long place) in
      let whole : Wrote out p (line ++ (10 ∷ [])) (set after (p + v) 10) (p + v + 1) = wrote_more place (wrote_one after (p + v) 10 room_left) in
      let is : rewritten l ≡ line ++ (10 ∷ []) =
      yes! _ _ (taken_read true f.taken) ∙ ap (λ (k : List ℕ). k ++ (10 ∷ [])) (sym written_read) in
      subst (λ (k : List ℕ). Wrote out p k (set after (p + v) 10) (p + v + 1)) (sym is) whole

  -- and counted
  pub line_counted : (v n m : ℕ) → a ≡ Done v → m ≡ (n + 1) % 2 ^ 64 → m ≡ number_after rewrites n l
  line_counted v n m e z = let f = done_fitted q b lent v (sym answer ∙ e) in z ∙ sym (yes! _ _ (taken_read true f.taken))

  -- nothing was written
  untaken : ((v : ℕ) → a ≡ Done v → ⊥) → takes q b ≡ false
  untaken n =
      let long : length lent ≡ length out - p = length-take (length out - p) (drop p out) ∙ omega (arith, length-drop p out) in
      refused q b lent (omega (arith, long)) (λ v e. n v (answer ∙ e))

  pub line_uncounted : (n : ℕ) → ((v : ℕ) → a ≡ Done v → ⊥) → n ≡ number_after rewrites n l
  line_uncounted n none = sym (no! _ _ (taken_read false (untaken none)))

  pub line_refused : ((v : ℕ) → a ≡ Done v → ⊥) → Wrote out p (rewritten l) after p
  unfolding buffer_after rewritten
  line_refused n =
      let none = untaken n in
      let kept : y ≡ over lent 0 [] = bytes ∙ no! _ _ (both_no _ none) ∙ over_none lent 0 in
      let same : after ≡ out = over_lent out [] y p kept ∙ sym (over_none out p) in
      let is : rewritten l ≡ [] = no! _ _ (taken_read false none) in
      subst (λ (k : List ℕ). Wrote out p k after p) (sym is) (subst (λ (k : List ℕ). Wrote out p [] k p) (sym same) (wrote_none out p (omega arith)))
