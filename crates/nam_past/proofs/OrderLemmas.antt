-- The order of publication only grows at its end, so each moment of a snapshot stays one.
use Rattle.std.proofs.Common.{List, None, Option, Some, [], ap, arith, refl, subst, sym, ℕ, ◌+◌, ◌∙◌, ◌∷◌}
use Rattle.std.proofs.lemmas.List.{append-nil, length-append, take-append-le}
use Rattle.nam_catalog.specs.declared.shape.Shape.{Shape}
use Rattle.nam_ghost.specs.Ghost.{Ghost, ghost_step}
use Rattle.nam_ghost.specs.Steps.{order_after}
use Rattle.nam_past.specs.Past.{IsMoment, count_of}
use Rattle.nam_past.specs.PrefixLaw.{StaysLaw}
use Rattle.nam_protocol.specs.Commit.{own_stamp}
use Rattle.nam_protocol.specs.declared.client.CallPoint.{CallPoint}
use Rattle.nam_protocol.specs.declared.client.CallPoint.TheVariants.{InTxn}
use Rattle.nam_protocol.specs.declared.client.Open.{Open}
use Rattle.nam_protocol.specs.declared.txn.CommitPoint.TheVariants.{Publishing}
use Rattle.nam_protocol.specs.declared.txn.TxnPoint.TheVariants.{Committing}
use Rattle.nam_store.specs.Store.{Abandons, Asks, Cuts, StepsTo, Store, Takes}
use Rattle.si_model.specs.Lists.{IsFront}
use Rattle.si_model.specs.declared.log.Stamp.{Stamp}

same_order : (order : List Stamp) → IsFront order order
same_order order = ([], append-nil order)

after_grows : (opened : Option Open) (place : CallPoint) (order : List Stamp)
    → IsFront order (order_after opened place order)
after_grows (Some attempt) (InTxn (Committing Publishing)) order = (own_stamp attempt.state ∷ [], refl)
after_grows (Some attempt) (InTxn (Committing _)) order = same_order order
after_grows (Some attempt) _ order = same_order order
after_grows None place order = same_order order

pub order_grows : (shape : Shape) (before after : Store) (goes : StepsTo shape before after) (ghost : Ghost)
    → IsFront ghost.order (ghost_step shape before after goes ghost).order
order_grows shape before _ (Takes nth client place here runs at) ghost = after_grows client.txn place ghost.order
order_grows shape before _ (Asks nth client asked here may words) ghost = same_order ghost.order
order_grows shape before _ (Abandons nth client here rests) ghost = same_order ghost.order
order_grows shape before _ (Cuts nth client here) ghost = same_order ghost.order

-- of the longer order it is the same front
pub moment_grows : (start workers : ℕ) (order later : List Stamp) → IsFront order later → (s : List ℕ) (count : ℕ)
    → IsMoment start workers order s count → IsMoment start workers later s count
moment_grows start workers order later front s count is =
    subst (λ later. IsMoment start workers later s count) front.1 record {
      within = let within = is.within in let long = length-append order front.0 in omega arith;
      entries = λ a less. is.entries a less
          ∙ ap (λ stamps. start + count_of a stamps) (sym (take-append-le count order front.0 is.within));
    }

pub stays_law : StaysLaw
stays_law shape before after goes ghost =
    moment_grows shape.start shape.workers ghost.order (ghost_step shape before after goes ghost).order
    (order_grows shape before after goes ghost)
