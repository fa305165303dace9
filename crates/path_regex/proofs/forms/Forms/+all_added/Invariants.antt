use Rattle.path_regex.proofs.forms.Forms.+all_added.Given as goal

abbrev pub decreases-all_added : goal.decreases-all_added
decreases-all_added l = l.form
