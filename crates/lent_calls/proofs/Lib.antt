-- The parameters of a lent call as a block; what its method hands back; the one walk of a lent call.
pub mod Pars
pub mod Results
pub mod Walk
