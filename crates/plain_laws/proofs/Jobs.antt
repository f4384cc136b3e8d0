-- What a job of the map comes to: an order that is carried out, or an upload that is given up.
use Rattle.std.proofs.Common.{ℕ, true, false, List, length}
use Rattle.std.specs.Prelude.{⊤, ◌==◌, if◌then◌else◌}
use Rattle.flow_model.specs.declared.order.Order.{Order}
use Rattle.flow_model.specs.declared.order.Order.TheVariants.{Put}
use Rattle.flow_model.specs.declared.flow.FlowEnd.TheVariants.{Aborted}
use Rattle.serve_model.specs.declared.upload.Upload.{Upload}
use Rattle.serve_model.specs.Stores.{Job, carry, keep, leave, Carried}
use Rattle.serve_model.specs.Plain.{Plain, tells, answered, done_for}

-- the put of the bytes of an upload
abbrev pub put_of : Upload → List ℕ → Order
put_of u came = Put u.bucket u.key came u.headers

-- the order that the job may be carried out as is such
abbrev pub IsOfOrder : (Order → Type 0) → Job → Type 0
IsOfOrder Such (carry o) = Such o
IsOfOrder Such (keep u came) = Such (put_of u came)
IsOfOrder Such (leave u came) = ⊤

-- where any order is
pub each_order : (Such : Order → Type 0) → ((o : Order) → Such o) → (job : Job) → IsOfOrder Such job
each_order Such each (carry o) = each o
each_order Such each (keep u came) = each (put_of u came)
each_order Such each (leave u came) = tt

-- what holds of what comes of such orders, and where nothing but an end is told
pub done_by : (Such : Order → Type 0) (Good : Carried Plain → Type 0) (P : Plain) → ((o : Order) → Such o → Good (answered P o)) → Good (tells P Aborted) → (job : Job) → IsOfOrder Such job → Good (done_for P job)
done_by Such Good P orders given_up (carry o) such = orders o such
done_by Such Good P orders given_up (keep u came) such = elim (length came == u.length) as (λ b. Good (if b then answered P (put_of u came) else tells P Aborted)) [
  | true ↦ orders (put_of u came) such
  | false ↦ given_up
]
done_by Such Good P orders given_up (leave u came) such = given_up
