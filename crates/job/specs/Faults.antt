-- The field, the layer and the number of a job's fault, and what is said by a reply. Assumes nothing.
use Rattle.std.specs.Prelude.{ℕ, Ok, Err, Result}
use Rattle.faults.specs.declared.layer.Layer.{Layer}
use Rattle.planner.specs.Faults.{planner_number, planner_layer}
use Rattle.command.specs.Faults.{fault_number, fault_layer}
use Rattle.job.specs.declared.fault.JobFault.{JobFault}
use Rattle.job.specs.declared.fault.JobFault.TheVariants as fault
use Rattle.job.specs.declared.reply.Reply.{Reply}
use Rattle.job.specs.declared.reply.Reply.TheVariants as reply
use Rattle.job.specs.Replies.{Said, nothing_said, plan_said, bits_said, fault_said}

abbrev pub job_field : JobFault → ℕ
job_field (fault.Line found) = found.field
job_field (fault.Planner _) = 0

abbrev pub job_layer : JobFault → Layer
job_layer (fault.Line found) = fault_layer found.fault
job_layer (fault.Planner found) = planner_layer found

abbrev pub job_number : JobFault → ℕ
job_number (fault.Line found) = fault_number found.fault
job_number (fault.Planner found) = planner_number found

abbrev pub reply_said : Reply → Said
reply_said reply.Nothing = nothing_said
reply_said (reply.Plan budget bits cost grades) = plan_said budget bits cost grades.list.items
reply_said (reply.Bits bound bits) = bits_said bound bits

abbrev pub said_by : Result Reply JobFault → Said
said_by (Ok answer) = reply_said answer
said_by (Err found) = fault_said (job_field found) (job_layer found) (job_number found)
