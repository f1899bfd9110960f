-- `chains::link` puts a bracket at the head of the chain of its right end. Assumes nothing.
use native.Mathlib.Omega.{arith}
use Rattle.meaning.proofs.sound.Cells.{limit_fits}
use Rattle.collect.proofs.chains.link.Goals as goal

pub overflow_cast-m : goal.overflow_cast-m
overflow_cast-m c = omega (arith, c.requires.m_in, c.requires.len, limit_fits)
