use Rattle.std.proofs.Common.{sym}
use Rattle.merlin.proofs.commands.read_first.Goals as goal

pub returns-in-Compile-clause-ok : goal.returns-in-Compile-clause-ok
returns-in-Compile-clause-ok g c = rw (c.in-Compile.is, sym c.files_to_compile.ensures) c.read_files.ensures.ok

pub returns-in-Compile-clause-err : goal.returns-in-Compile-clause-err
returns-in-Compile-clause-err g c = rw (c.in-Compile.is, sym c.files_to_compile.ensures) c.read_files.ensures.err

pub returns-in-Refine-clause-ok : goal.returns-in-Refine-clause-ok
returns-in-Refine-clause-ok g c = rw (c.in-Refine.is, sym c.files_to_refine.ensures) c.read_files-in-Refine.ensures.ok

pub returns-in-Refine-clause-err : goal.returns-in-Refine-clause-err
returns-in-Refine-clause-err g c = rw (c.in-Refine.is, sym c.files_to_refine.ensures) c.read_files-in-Refine.ensures.err

pub returns-in-Refute-clause-ok : goal.returns-in-Refute-clause-ok
returns-in-Refute-clause-ok g c = rw (c.in-Refute.is, sym c.files_to_refute.ensures) c.read_files-in-Refute.ensures.ok

pub returns-in-Refute-clause-err : goal.returns-in-Refute-clause-err
returns-in-Refute-clause-err g c = rw (c.in-Refute.is, sym c.files_to_refute.ensures) c.read_files-in-Refute.ensures.err

pub returns-in-Fair-clause-ok : goal.returns-in-Fair-clause-ok
returns-in-Fair-clause-ok g c = rw (c.in-Fair.is, sym c.files_to_divide.ensures) c.read_files-in-Fair.ensures.ok

pub returns-in-Fair-clause-err : goal.returns-in-Fair-clause-err
returns-in-Fair-clause-err g c = rw (c.in-Fair.is, sym c.files_to_divide.ensures) c.read_files-in-Fair.ensures.err

pub returns-in-Fairness-clause-ok : goal.returns-in-Fairness-clause-ok
returns-in-Fairness-clause-ok g c = rw (c.in-Fairness.is, sym c.files_to_judge.ensures) c.read_files-in-Fairness.ensures.ok

pub returns-in-Fairness-clause-err : goal.returns-in-Fairness-clause-err
returns-in-Fairness-clause-err g c = rw (c.in-Fairness.is, sym c.files_to_judge.ensures) c.read_files-in-Fairness.ensures.err

pub returns-in-Trace-clause-ok : goal.returns-in-Trace-clause-ok
returns-in-Trace-clause-ok g c = rw (c.in-Trace.is, sym c.files_to_trace.ensures) c.read_files-in-Trace.ensures.ok

pub returns-in-Trace-clause-err : goal.returns-in-Trace-clause-err
returns-in-Trace-clause-err g c = rw (c.in-Trace.is, sym c.files_to_trace.ensures) c.read_files-in-Trace.ensures.err

pub returns-in-Wire-clause-ok : goal.returns-in-Wire-clause-ok
returns-in-Wire-clause-ok g c = rw (c.in-Wire.is, sym c.files_to_wire.ensures) c.read_files-in-Wire.ensures.ok

pub returns-in-Wire-clause-err : goal.returns-in-Wire-clause-err
returns-in-Wire-clause-err g c = rw (c.in-Wire.is, sym c.files_to_wire.ensures) c.read_files-in-Wire.ensures.err

pub returns-in-Unwire-clause-ok : goal.returns-in-Unwire-clause-ok
returns-in-Unwire-clause-ok g c = rw (c.in-Unwire.is, sym c.files_to_unwire.ensures) c.read_files-in-Unwire.ensures.ok

pub returns-in-Unwire-clause-err : goal.returns-in-Unwire-clause-err
returns-in-Unwire-clause-err g c = rw (c.in-Unwire.is, sym c.files_to_unwire.ensures) c.read_files-in-Unwire.ensures.err

pub returns-in-Delegate-clause-ok : goal.returns-in-Delegate-clause-ok
returns-in-Delegate-clause-ok g c = rw (c.in-Delegate.is, sym c.files_to_delegate.ensures) c.read_files-in-Delegate.ensures.ok

pub returns-in-Delegate-clause-err : goal.returns-in-Delegate-clause-err
returns-in-Delegate-clause-err g c = rw (c.in-Delegate.is, sym c.files_to_delegate.ensures) c.read_files-in-Delegate.ensures.err
