use Rattle.cp_frame.proofs.order.+labels.Given as goal

abbrev pub decreases-labels_early : goal.decreases-labels_early
decreases-labels_early l = l.count
