use Rattle.serve_cluster.proofs.changing.Changing.new.Goals as goal

pub returns : goal.returns
returns c = λ m st within changes. record { cluster = st; staged = within; to_come = changes }
