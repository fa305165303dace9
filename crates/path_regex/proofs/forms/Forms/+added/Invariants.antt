use Rattle.path_regex.proofs.forms.Forms.+added.Given as goal

abbrev pub decreases-added : goal.decreases-added
decreases-added l = l.others
