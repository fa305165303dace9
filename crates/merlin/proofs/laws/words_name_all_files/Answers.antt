use Rattle.merlin.proofs.Contents.{AreContentsOf-words, IsFirstTooLongOf-words, RoseInFilesOf-words}
use Rattle.merlin.proofs.laws.words_name_all_files.Goals as goal

pub returns-clause-contents : goal.returns-clause-contents
returns-clause-contents c = AreContentsOf-words

pub returns-clause-too_long : goal.returns-clause-too_long
returns-clause-too_long c = IsFirstTooLongOf-words

pub returns-clause-faults : goal.returns-clause-faults
returns-clause-faults c = RoseInFilesOf-words
