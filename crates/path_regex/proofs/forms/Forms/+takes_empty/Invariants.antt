use Rattle.path_regex.proofs.forms.Forms.+takes_empty.Given as goal

abbrev pub decreases-takes_empty : goal.decreases-takes_empty
decreases-takes_empty l = l.form
