use Rattle.path_regex.proofs.forms.Forms.+grouped_cat.Given as goal

abbrev pub decreases-grouped_cat : goal.decreases-grouped_cat
decreases-grouped_cat l = l.first
