use Rattle.deciding.specs.Decisions.{enrols, creates, destroys, resets}
use Rattle.deciding.proofs.Served.{still_as, asked_as, cleared_as, fetched_as, stored_as}
use Rattle.deciding.proofs.Decided.{edit_seen, whole_seen, isolate_seen, fetch_seen, store_seen}
use Rattle.deciding.proofs.serve.Goals as goal

pub returns-in-Enrol-clause-served : goal.returns-in-Enrol-clause-served
returns-in-Enrol-clause-served c = search cleared_as

pub returns-in-Enrol-clause-seen : goal.returns-in-Enrol-clause-seen
returns-in-Enrol-clause-seen c = search (whole_seen, enrols)

pub returns-in-Create-clause-served : goal.returns-in-Create-clause-served
returns-in-Create-clause-served c = search cleared_as

pub returns-in-Create-clause-seen : goal.returns-in-Create-clause-seen
returns-in-Create-clause-seen c = search (whole_seen, creates)

pub returns-in-Destroy-clause-served : goal.returns-in-Destroy-clause-served
returns-in-Destroy-clause-served c = search cleared_as

pub returns-in-Destroy-clause-seen : goal.returns-in-Destroy-clause-seen
returns-in-Destroy-clause-seen c = search (whole_seen, destroys)

pub returns-in-Permit-clause-served : goal.returns-in-Permit-clause-served
returns-in-Permit-clause-served c = search still_as

pub returns-in-Permit-clause-seen : goal.returns-in-Permit-clause-seen
returns-in-Permit-clause-seen c = search edit_seen

pub returns-in-Isolate-clause-served : goal.returns-in-Isolate-clause-served
returns-in-Isolate-clause-served c = search still_as

pub returns-in-Isolate-clause-seen : goal.returns-in-Isolate-clause-seen
returns-in-Isolate-clause-seen c = search isolate_seen

pub returns-in-Query-clause-served : goal.returns-in-Query-clause-served
returns-in-Query-clause-served c = search asked_as

pub returns-in-Query-clause-seen : goal.returns-in-Query-clause-seen
returns-in-Query-clause-seen c = search edit_seen

pub returns-in-Add-clause-served : goal.returns-in-Add-clause-served
returns-in-Add-clause-served c = search still_as

pub returns-in-Add-clause-seen : goal.returns-in-Add-clause-seen
returns-in-Add-clause-seen c = search edit_seen

pub returns-in-Remove-clause-served : goal.returns-in-Remove-clause-served
returns-in-Remove-clause-served c = search still_as

pub returns-in-Remove-clause-seen : goal.returns-in-Remove-clause-seen
returns-in-Remove-clause-seen c = search edit_seen

pub returns-in-Load-clause-served : goal.returns-in-Load-clause-served
returns-in-Load-clause-served c = search still_as

pub returns-in-Load-clause-seen : goal.returns-in-Load-clause-seen
returns-in-Load-clause-seen c = search edit_seen

pub returns-in-Mode-clause-served : goal.returns-in-Mode-clause-served
returns-in-Mode-clause-served c = search still_as

pub returns-in-Mode-clause-seen : goal.returns-in-Mode-clause-seen
returns-in-Mode-clause-seen c = search edit_seen

pub returns-in-Fetch-clause-served : goal.returns-in-Fetch-clause-served
returns-in-Fetch-clause-served c = search fetched_as

pub returns-in-Fetch-clause-seen : goal.returns-in-Fetch-clause-seen
returns-in-Fetch-clause-seen c = search fetch_seen

pub returns-in-Store-clause-served : goal.returns-in-Store-clause-served
returns-in-Store-clause-served c = search stored_as

pub returns-in-Store-clause-seen : goal.returns-in-Store-clause-seen
returns-in-Store-clause-seen c = search store_seen

pub returns-in-Reset-clause-served : goal.returns-in-Reset-clause-served
returns-in-Reset-clause-served c = search cleared_as

pub returns-in-Reset-clause-seen : goal.returns-in-Reset-clause-seen
returns-in-Reset-clause-seen c = search (whole_seen, resets)

pub returns-in-Key-clause-served : goal.returns-in-Key-clause-served
returns-in-Key-clause-served c = search still_as

pub returns-in-Key-clause-seen : goal.returns-in-Key-clause-seen
returns-in-Key-clause-seen c = search edit_seen

pub returns-in-Block-clause-served : goal.returns-in-Block-clause-served
returns-in-Block-clause-served c = search still_as

pub returns-in-Block-clause-seen : goal.returns-in-Block-clause-seen
returns-in-Block-clause-seen c = search edit_seen
