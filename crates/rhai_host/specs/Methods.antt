-- Methods of a world that are passed as closures, and the commands that they execute.
use Rattle.std.specs.Prelude.{◌≡◌, ℕ, List}
use Rattle.std.specs.Borrow.{Bor, MutBor}
use Rattle.rhai_run.specs.declared.command.Command.{Command}
use Rattle.rhai_run.specs.declared.command.Place.{Place}
use Rattle.rhai_run.specs.declared.command.PlaceRef.{PlaceRef}
use Rattle.rhai_run.specs.Outcome.{Outcome}
use Rattle.rhai_run.specs.Places.{place_of}
use Rattle.rhai_run.specs.State.{State}
use Rattle.rhai_run.specs.Step.{step}

module _ {R : Type 0} (IsFor : R → State → State → Outcome → Type 0) where
  -- a method that executes the command's step: what it returns in a world, leaving another one, is
  -- the reply for the outcome of the command
  abbrev pub Makes : (State → R → State → Type 0) → Command → Type 0
  Makes Gives c = (w v : State) (r : R) → Gives w r v → IsFor r w v (step w c)

  -- the same for a method that is called with a name, and for one that is called with a place
  abbrev pub MakesNamed : (List ℕ → State → R → State → Type 0) → (List ℕ → Command) → Type 0
  MakesNamed Gives c = (name : List ℕ) (w v : State) (r : R) → Gives name w r v → IsFor r w v (step w (c name))

  abbrev pub MakesAt : (Place → State → R → State → Type 0) → (Place → Command) → Type 0
  MakesAt Gives c = (place : Place) (w v : State) (r : R) → Gives place w r v → IsFor r w v (step w (c place))

-- a method is called with this name in a world, and leaves another one
pub record ReturnsNamed {R : Type 0} (Post : MutBor State → Bor (List ℕ) → R → MutBor State → Type 0) (name : List ℕ) (w : State) (r : R) (v : State) : Type 0 where
  pub shown : MutBor State
  pub shows : shown.now ≡ w
  pub lent : Bor (List ℕ)
  pub lends : lent.now ≡ name
  pub left : MutBor State
  pub met : Post shown lent r left
  pub leaves : left.now ≡ v

-- the same for a place
pub record ReturnsAt {R : Type 0} (Post : MutBor State → PlaceRef → R → MutBor State → Type 0) (place : Place) (w : State) (r : R) (v : State) : Type 0 where
  pub shown : MutBor State
  pub shows : shown.now ≡ w
  pub lent : PlaceRef
  pub lends : place_of lent ≡ place
  pub left : MutBor State
  pub met : Post shown lent r left
  pub leaves : left.now ≡ v
