use Rattle.real_pickles.proofs.edits.+go_on.Given as goal

-- how many edits are still to be made
abbrev pub decreases-go_on : goal.decreases-go_on
decreases-go_on l = l.more
