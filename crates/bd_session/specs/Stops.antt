-- What a stop leaves, whatever images there were before: whole catalogues, and behind most answers the contents alone.
use Rattle.std.specs.Prelude.{◌≡◌, ◌⊎◌, ℕ, List, [], ◌∷◌, Some}
use Rattle.bd_disk.specs.History.{contents}
use Rattle.bd_disk.specs.Made.{IsSettled, LeavesNow, LeavesSince}
use Rattle.bd_model.specs.declared.answer.Answer.{Answer}
use Rattle.bd_model.specs.declared.command.Command.{Command}
use Rattle.bd_store.specs.Attempts.{Scene}
use Rattle.bd_store.specs.Kinds.{Kind, Gained, Lost, Given, Figures, NoRoom, ByNumbers, Shows, Elsewhere, kind_of}
use Rattle.bd_store.specs.Opens.{OpensOnEitherSide, OpensWith}
use Rattle.bd_session.specs.Course.{Course, next_command}
use Rattle.bd_session.specs.Turns.{Goes, AnsweredCommands}

-- each image that a stop now may leave opens with the catalogue that the store in memory has
abbrev pub OpensAsStore : Scene → Type 0
OpensAsStore a = LeavesNow (OpensWith a.store.found) a.world.disk

-- the image opens with the catalogue behind the last answer, or with what the command behind it may leave
abbrev pub OpensBehind : Course → Scene → Scene → List ℕ → Type 0
OpensBehind c last now image =
    OpensWith last.store.found image
    ⊎ ((command : Command) × (next_command c ≡ Some command) × OpensOnEitherSide last.store.held last.store.found command now.store (contents last.world.disk) (contents now.world.disk) image)

-- Behind each answer every image opens with the catalogue that the store then has; and so it does at any moment after the last
-- one, or with what the command may leave that brought the end. The contents are one of these images.
pub record CataloguesStay {disk files sink : Type 0} {c : Course} {first now : Scene} (goes : Goes disk files sink c first now) : Type 0 where
  pub answered : {answers : List Answer} {clocks : List ℕ} {at : Scene} → AnsweredCommands disk files sink c.commands first answers clocks at → OpensAsStore at
  pub ended : LeavesSince (OpensBehind c goes.last now) goes.last.world.disk now.world.disk

-- A stop behind the answer leaves the contents and nothing else where a version was named or given up, elsewhere where `before`
-- says so of the moment before it. What a backup wrote that lacked room may be lost.
abbrev pub RestsBehind : Kind → Type 0 → Type 0
RestsBehind (Gained bytes chunks fresh) before = Unit {0}
RestsBehind (Lost extents) before = Unit {0}
RestsBehind Given before = before
RestsBehind (Figures owned free) before = before
RestsBehind (NoRoom counted free held) before = ⊥
RestsBehind ByNumbers before = before
RestsBehind Shows before = before
RestsBehind Elsewhere before = before

-- and behind these answers, the first of them first
abbrev pub RestsBehindAll : List Answer → Type 0 → Type 0
RestsBehindAll [] before = before
RestsBehindAll (answer ∷ answers) before = RestsBehindAll answers (RestsBehind (kind_of answer) before)

-- Behind each answer a stop leaves the contents and nothing else, as the answers so far say.
pub record StopsAtRest (disk files sink : Type 0) (commands : List Command) (first : Scene) : Type 0 where
  pub each : {answers : List Answer} {clocks : List ℕ} {at : Scene} → AnsweredCommands disk files sink commands first answers clocks at →
      RestsBehindAll answers (IsSettled first.world.disk) → IsSettled at.world.disk
