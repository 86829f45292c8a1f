-- The checks of ENROL's arguments as the code makes them, and what is decided of ENROL.
use Rattle.std.specs.Prelude.{ℕ, List, Result, Ok, Err, ◌≡◌, leb}
use Rattle.lists.specs.Choice.{choose, both}
use Rattle.model.specs.declared.Answer.{Answer}
use Rattle.model.specs.declared.Answer.TheVariants.{Limit}
use Rattle.model.specs.declared.Caller.{Caller}
use Rattle.model.specs.declared.Guest.{Guest}
use Rattle.model.specs.declared.Kind.TheVariants.{Pages, Allowance, ListSize, Flag}
use Rattle.model.specs.declared.Operation.TheVariants.{Enrol}
use Rattle.model.specs.declared.Settings.{Settings}
use Rattle.model.specs.declared.Space.{Space}
use Rattle.model.specs.Calls.{enrolling}
use Rattle.model.specs.Names.{base_name}
use Rattle.model.specs.Replies.{call_of}
use Rattle.making.specs.declared.Placed.{Placed}
use Rattle.making.specs.Placing.{CallPlacedTo}

-- the first one outside refuses it
unfoldable pub settings_checked : Settings → Result (Unit {0}) Answer
settings_checked x =
    choose (both (leb 1 x.pages) (leb x.pages 512))
    (choose (leb x.allowance 31)
    (choose (leb x.share 1)
    (choose (both (leb 1 x.list) (leb x.list 30))
    (choose (leb x.asf 1) (Ok tt)
    (Err (Limit Flag 6)))
    (Err (Limit ListSize 5)))
    (Err (Limit Flag 4)))
    (Err (Limit Allowance 3)))
    (Err (Limit Pages 2))

-- what ENROL decides on the tables that it looks at
abbrev pub Decides : (frames next : ℕ) → List Space → List Guest → Caller → Settings → Result Placed Answer → Type 0
Decides F next ss gs c x r = CallPlacedTo F next ss gs (call_of c (Enrol x)) base_name x.pages (λ s. enrolling s c.guest x) r

-- and where it is not refused its settings are inside their limits
abbrev pub EnrolsTo : (frames next : ℕ) → List Space → List Guest → Caller → Settings → Result Placed Answer → Type 0
EnrolsTo F next ss gs c x (Err a) = Decides F next ss gs c x (Err a)
EnrolsTo F next ss gs c x (Ok y) = (settings_checked x ≡ Ok tt) × Decides F next ss gs c x (Ok y)
