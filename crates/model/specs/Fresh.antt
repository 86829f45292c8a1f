-- Paper 01, "Sizes": "A fresh state for F frames has nobody enrolled and next identification 1; F outside 1 to 512 gives ..
-- tables of zeros with F 0, which aren't sound." Paper 02, M-102: "39 for F"; "For F, the value is 1."
use Rattle.std.specs.Prelude.{ℕ, Bool, replicate, leb}
use Rattle.lists.specs.Choice.{both, choose}
use Rattle.model.specs.declared.Answer.TheVariants.{Done, Limit}
use Rattle.model.specs.declared.Kind.TheVariants.{Frames}
use Rattle.model.specs.declared.Reply.{Reply}
use Rattle.model.specs.declared.State.{State}
use Rattle.model.specs.Sizes.{max_frames}
use Rattle.model.specs.Tables.{no_space, no_guest, zero_cpu, no_permit, unused_entry, no_cell}

-- nobody enrolled; "the fresh table holds room for all 240 entries, unused"
abbrev pub empty_tables : (frames next : ℕ) → State
empty_tables f n = record {
  frames = f;
  next = n;
  spaces = replicate 32 no_space;
  guests = replicate 8 no_guest;
  cpus = replicate 8 zero_cpu;
  permits = replicate 256 no_permit;
  entries = replicate 240 unused_entry;
  cells = replicate max_frames no_cell;
}

unfoldable pub frames_in_range : ℕ → Bool
frames_in_range f = both (leb 1 f) (leb f max_frames)

unfoldable pub fresh : (frames : ℕ) → Reply
fresh f =
    choose (frames_in_range f)
    (record { answer = Done 0; state = empty_tables f 1 })
    (record { answer = Limit Frames 1; state = empty_tables 0 0 })
