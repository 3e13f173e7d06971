-- `fir_channelizer::takes_channels` meets its contract, a number at a time. Assumes nothing.
use Rattle.std.proofs.Common.{sym, ne_eqb}
use Rattle.fir_channelizer.specs.Channelizer.{channels_taken}
use Rattle.fir_channelizer.proofs.takes_channels.Goals as goal

pub returns-in-4 : goal.returns-in-4
unfolding channels_taken
returns-in-4 c = rw c.in-4.is

pub returns-in-8 : goal.returns-in-8
unfolding channels_taken
returns-in-8 c = rw c.in-8.is

pub returns-in-16 : goal.returns-in-16
unfolding channels_taken
returns-in-16 c = rw c.in-16.is

pub returns-in-32 : goal.returns-in-32
unfolding channels_taken
returns-in-32 c = rw c.in-32.is

pub returns-in-64 : goal.returns-in-64
unfolding channels_taken
returns-in-64 c = rw c.in-64.is

pub returns-in-128 : goal.returns-in-128
unfolding channels_taken
returns-in-128 c = rw c.in-128.is

pub returns-in-256 : goal.returns-in-256
unfolding channels_taken
returns-in-256 c = rw c.in-256.is

pub returns-in_default : goal.returns-in_default
unfolding channels_taken
returns-in_default c =
    let m = c.args.channels in
    let rest = c.in_default.in_default-own.rest in
    sym (rw (ne_eqb m 4 rest.0.0.0.0.0.0.1, ne_eqb m 8 rest.0.0.0.0.0.1, ne_eqb m 16 rest.0.0.0.0.1, ne_eqb m 32 rest.0.0.0.1, ne_eqb m 64 rest.0.0.1, ne_eqb m 128 rest.0.1, ne_eqb m 256 rest.1))
