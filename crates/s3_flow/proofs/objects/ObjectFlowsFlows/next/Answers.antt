use Rattle.s3_flow.proofs.objects.ObjectFlowsFlows.next.Goals as goal

pub returns-in-Window-clause-is : goal.returns-in-Window-clause-is
returns-in-Window-clause-is c = rw c.in-Window.is (c.after_window.ensures.is c.args.now)

pub returns-in-Kept-clause-is : goal.returns-in-Kept-clause-is
returns-in-Kept-clause-is c = rw c.in-Kept.is (c.after_kept.ensures.is c.args.now)

pub returns-in-Block-clause-is : goal.returns-in-Block-clause-is
returns-in-Block-clause-is c = rw c.in-Block.is (c.after_block.ensures.is c.args.now)
