-- All that a decision computes with after check 1, and all that the tests of check 1 compute with but the test of cells, each under
-- one name. Assumes nothing.
use Rattle.lists.specs.Choice.{choose, both, either, implies}
use Rattle.lists.specs.Places.{all_from, every, lowest_from, lowest, some, count, map_from, map_places}
use Rattle.model.specs.Answers.{limit_number, number, value}
use Rattle.model.specs.Arguments.{arguments, check_all}
use Rattle.model.specs.Calls.{new_space, making, new_guest, enrol, create, owning, destroy, permit, isolate, entitled, query, add, remove, load, mode, writes, access_at, access, target, fetching, storing, reset, set_key, block, perform, enrols, may_enrol, good_caller, judge}
use Rattle.model.specs.Changes.{allows, raised, released_from, released, revoked_from, revoked, released_all, vacated, unpermitted, freed, blanked, loses, revoked_all, withdrawn, reset_tables}
use Rattle.model.specs.Decision.{check}
use Rattle.model.specs.Frames.{frame_of, place_of, has_frame, frame_free}
use Rattle.model.specs.Fresh.{frames_in_range}
use Rattle.model.specs.Keys.{allows_key, key_permits}
use Rattle.model.specs.Names.{blanks, name_rest, name_form, name_bytes, good_name}
use Rattle.model.specs.Searches.{enrolled, slot_of, slot_named, primary_slot, primaries, data_spaces, free_slot, run_free, run_in, is_unused, free_entry}
use Rattle.model.specs.SoundTest.{head_test, live_test, dead_test, slot_test, frames_apart, same_name, pair_test, apart_test, spaces_test, enrolled_test, absent_test, guest_test, guests_test, permit_test, permits_test, ground_test, standing_test, untouched_test, entry_test, entries_test}
use Rattle.model.specs.Tokens.{malformed, assigned, token_used}
use Rattle.model.specs.Translation.{through_standing, translate}

-- whoever unfolds this unfolds all that a decision computes with
unfoldable pub decisions : Type 0
unfolding judge good_caller may_enrol enrols perform block set_key reset reset_tables storing fetching target access access_at writes mode load remove add query entitled isolate permit destroy owning create enrol new_guest making new_space check_all arguments check number limit_number value allows raised released_from released revoked_from revoked released_all vacated unpermitted freed blanked loses revoked_all withdrawn frame_of place_of has_frame frame_free allows_key key_permits blanks name_rest name_form name_bytes good_name enrolled slot_of slot_named primary_slot primaries data_spaces free_slot run_free run_in is_unused free_entry malformed assigned token_used through_standing translate choose both either implies all_from every lowest_from lowest some count map_from map_places
decisions = Unit {0}

-- and this, all that the tests of check 1 compute with; that of cells goes past the step limit
unfoldable pub tests : Type 0
unfolding head_test frames_in_range live_test dead_test slot_test frames_apart same_name pair_test apart_test spaces_test enrolled_test absent_test guest_test guests_test permit_test permits_test ground_test standing_test untouched_test entry_test entries_test allows enrolled primaries data_spaces is_unused blanks name_rest name_form name_bytes good_name choose both either implies all_from every count
tests = Unit {0}
